-- Agreement of the wrapped and the whole bench, from the parts to the theorem. Cases and Lists are tools; Way is the distance of a
-- packet that passes the timestamp test, and Ring the slots of the ends. Channels has both channels' events, State the invariant,
-- and Steps, Arriving and Hearing keep it event by event. Formed shows that no such state is malformed; Runs goes through a list of
-- events, and Theorem starts it from fresh.
pub mod Cases
pub mod Lists
pub mod Way
pub mod Ring
pub mod Channels
pub mod State
pub mod Steps
pub mod Arriving
pub mod Hearing
pub mod Formed
pub mod Runs
pub mod Theorem
