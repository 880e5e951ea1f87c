use Rattle.std.proofs.Common.{◌≡◌, ◌-◌, ◌*◌, ◌≤◌, ◌++◌, length, take, drop, set, ap, ◌∙◌, arith, length-set, length-take, rules}
use Rattle.std.specs.List.{flat_map}
use Rattle.files.specs.Bytes.{word32}
use Rattle.files.specs.Laws.{row_written}
use Rattle.files.proofs.records.AllocationRowRecord.encode.Goals as goal

pub returns : goal.returns
returns c =
    let row = c.args.self in
    let out = c.args.out.now in
    let begun = set (set out 0 row.method) 1 row.balance in
    let part = take (length begun - 2) (drop 2 begun) in
    let eight : length row.nominations ≡ 8 = search rules in
    let size : length begun - 2 ≡ 32 = simp length-set (omega arith) in
    let short : length part ≤ 32 = simp length-take (omega arith) in
    record {
      after =
          row_written row out c.write_records.new.out part (length begun - 2) c.requires size short
          (c.write_records.ensures.after ∙ ap (λ n. flat_map word32 row.nominations ++ drop (n * 4) part) eight);
      fits = (eight, c.write_records.ensures.fits);
    }
