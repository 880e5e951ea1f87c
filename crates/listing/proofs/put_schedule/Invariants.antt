use Rattle.std.proofs.Common.{◌≡◌, ◌+◌, ◌<◌, ◌++◌, length, string_bytes}
use Prim.Native.Nat.{◌^◌}
use Rattle.std.specs.Iterator.Adapters.{zip_first, zip_second}
use Rattle.files.specs.Bytes.{records_in}
use Rattle.files.specs.Records.{row_size, decoded_row}
use Rattle.files.specs.Reads.{told_schedule}
use Rattle.listing.specs.Texts.{rows_text, told_text}
use Rattle.listing.proofs.put_schedule.Given as goal

abbrev pub invariant-loop-period : goal.invariant-loop-period
invariant-loop-period l =
    let period = (zip_first l.period-iterator).start in
    let left = records_in decoded_row row_size (zip_second l.period-iterator).bytes.now in
    record {
      few : period + length left < 2 ^ 64;
      written : string_bytes l.text ++ rows_text period left ≡ string_bytes l.fn.text ++ told_text (told_schedule l.fn.file);
    }
