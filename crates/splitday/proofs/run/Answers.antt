use Rattle.splitday.proofs.Cut.{shown}
use Rattle.splitday.proofs.run.Goals as goal

pub returns : goal.returns
returns g c = shown g.R.Read.remaining c.args.input c.take.result.inner c.take.result.limit _ _ c.new-files.result.items _ _ c.take.ensures.inner c.take.ensures.limit c.new-files.ensures.items c.in_ok-read_to_end.ensures.bytes (rw c.as_slice.ensures.value at c.in_ok-text.ensures) (rw c.as_slice-2.ensures.value at c.in_ok-write_all.ensures.bytes)
