use Rattle.std.proofs.Common.{ap}
use Rattle.std.proofs.lemmas.Iterator.{items_from_collect}
use Rattle.files.specs.Bytes.{records_in}
use Rattle.files.specs.Records.{decoded_row, row_size}
use Rattle.files.specs.Packs.{records_given}
use Rattle.dayrun.proofs.schedule_rows.Goals as goal

pub returns : goal.returns
returns c = items_from_collect c.collect.result c.collect.ensures.ran (records_given decoded_row row_size _ (ap (records_in decoded_row row_size) c.iter.ensures.bytes))
