use Rattle.std.proofs.Common.{ap, ◌∙◌}
use Rattle.std.specs.List.{flat_map}
use Rattle.files.specs.Bytes.{records_in}
use Rattle.files.specs.Records.{line_size, decoded_line}
use Rattle.listing.specs.Texts.{line_text, statement_heading}
use Rattle.listing.proofs.Steps.{headed}
use Rattle.listing.proofs.put_statement.Goals as goal

pub loop-line-init : goal.loop-line-init
loop-line-init c =
    headed statement_heading (λ bs. flat_map line_text (records_in decoded_line line_size bs)) _ _ _ _ _ _ c.in_ok-write.ensures.bytes c.len-count.ensures (ap (λ it. it.bytes.now) c.into_iter-line-iterator.ensures.into_iter_gives ∙ c.iter-line-items.ensures.bytes)
