use Rattle.recount.proofs.+peel.Given as goal

abbrev pub decreases-peel : goal.decreases-peel
decreases-peel l = l.blocks
