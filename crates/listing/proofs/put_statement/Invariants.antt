use Rattle.std.proofs.Common.{◌≡◌, ◌++◌, string_bytes}
use Rattle.std.specs.List.{flat_map}
use Rattle.files.specs.Bytes.{records_in}
use Rattle.files.specs.Records.{line_size, decoded_line}
use Rattle.files.specs.Reads.{told_statement}
use Rattle.listing.specs.Texts.{line_text, told_text}
use Rattle.listing.proofs.put_statement.Given as goal

abbrev pub invariant-loop-line : goal.invariant-loop-line
invariant-loop-line l =
    string_bytes l.text ++ flat_map line_text (records_in decoded_line line_size l.line-iterator.bytes.now) ≡ string_bytes l.fn.text ++ told_text (told_statement l.fn.file)
