use Rattle.std.proofs.Common.{◌≡◌, ◌++◌, string_bytes}
use Rattle.std.specs.List.{flat_map}
use Rattle.files.specs.Bytes.{records_in}
use Rattle.files.specs.Records.{reading_size, decoded_reading}
use Rattle.files.specs.Reads.{told_readings}
use Rattle.listing.specs.Texts.{reading_text, told_text}
use Rattle.listing.proofs.put_readings.Given as goal

abbrev pub invariant-loop-reading : goal.invariant-loop-reading
invariant-loop-reading l =
    string_bytes l.text ++ flat_map reading_text (records_in decoded_reading reading_size l.reading-iterator.bytes.now) ≡ string_bytes l.fn.text ++ told_text (told_readings l.fn.file)
