use Rattle.showfile.proofs.Cut.{shown}
use Rattle.showfile.proofs.run.Goals as goal

pub returns : goal.returns
returns g c = shown g.R.Read.remaining c.args.input c.take.result.inner c.take.result.limit _ _ c.new-file.result.items _ _ c.take.ensures.inner c.take.ensures.limit c.new-file.ensures.items c.in_ok-read_to_end.ensures.bytes (rw c.as_slice.ensures.value at c.in_ok-text.ensures) (rw c.as_bytes.ensures.value at c.in_ok-write_all.ensures.bytes)
