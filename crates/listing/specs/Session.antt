-- A session, from its bytes to its listing, computed from the definition.
use Rattle.std.specs.Prelude.{◌≡◌, refl}
use Rattle.rules.specs.Numbers.{dist, wrapped}
use Rattle.rules.specs.Setups.{◌also◌, is_window, in_limits, in_ranges, admitted, same_setup}
use Rattle.rules.specs.Marks.{marked, mark, unmark}
use Rattle.rules.specs.Rows.{row}
use Rattle.rules.specs.Parts.{is_no_data, is_no_ack}
use Rattle.rules.specs.Malformed.{all_from, every, formed_recent, formed_sender, formed_receiver, right_data, right_ack, formed_aged, formed_channel, formed_bench, malformed_bench}
use Rattle.rules.specs.Events.{act}
use Rattle.rules.specs.Operations.{step}
use Rattle.reader.specs.Text.{bytes}
use Rattle.reader.specs.Cuts.{index_of, split}
use Rattle.reader.specs.Values.{value_on, value_of}
use Rattle.reader.specs.Lines.{field_of, setup_value, nth, event_for, line_of}
use Rattle.writer.specs.Decimal.{decimal_on, decimal}
use Rattle.writer.specs.Lines.{then_units, event_line}
use Rattle.listing.specs.Listing.{word_line, events_from, in_fields, judged, setup_from, lines, joined, listing}

pub session :
    listing wrapped (bytes "window=2\nseqbits=3\nclockbits=3\nlife=1\nrate=2\nseq=7\nsclock=7\nrclock=2\naccept=500\nroom=1\nroom=1\nroom=1\nack=1\nhear=0\naccept=500\naccept=740\naccept=760\nsend=1\nsend=0\ndupd=1\ndata=0\ndata=0\ndata=0\ndata=0\n")
    ≡ bytes "setup 0\n1 6\n2 0\n3 0\n4 13\n5 0\n6 0\n7 0\n8 0\n9 6\n10 0\n11 0\n12 0\n13 0\n14 0 500 740\n15 10\n16 4\n"
unfolding listing joined lines setup_from judged in_fields events_from word_line event_line then_units decimal decimal_on line_of event_for setup_value nth field_of value_of value_on split index_of step act dist marked mark unmark row malformed_bench formed_bench formed_sender formed_receiver formed_channel formed_aged right_data right_ack formed_recent is_no_data is_no_ack same_setup every all_from admitted in_limits in_ranges is_window ◌also◌
session = refl
