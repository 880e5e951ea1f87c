use Rattle.std.proofs.Common.{ap, ◌∙◌}
use Rattle.std.specs.List.{flat_map}
use Rattle.files.specs.Bytes.{records_in}
use Rattle.files.specs.Records.{reading_size, decoded_reading}
use Rattle.listing.specs.Texts.{reading_text, readings_heading}
use Rattle.listing.proofs.Steps.{headed}
use Rattle.listing.proofs.put_readings.Goals as goal

pub loop-reading-init : goal.loop-reading-init
loop-reading-init c =
    headed readings_heading (λ bs. flat_map reading_text (records_in decoded_reading reading_size bs)) _ _ _ _ _ _ c.in_ok-write.ensures.bytes c.len-count.ensures (ap (λ it. it.bytes.now) c.into_iter-reading-iterator.ensures.into_iter_gives ∙ c.iter-reading-items.ensures.bytes)
