-- The second calculation's way to a row's rule: first blocks are peeled off the front.
use Rattle.std.specs.Prelude.{◌≡◌, true, false, Some, None, Option}
use Rattle.rules.specs.Meaning.{Agreement, Meaning}
use Rattle.rules.specs.Agreed.{agreed}
use Rattle.rules.specs.Blocks.{fixed_block, multiple_block}
use Rattle.rules.specs.Pairs.{first_of, percentage, capped_block}
use Rattle.rules.specs.First.{opens, after_first}
use Rattle.recount.specs.declared.Front.{Front}
use Rattle.recount.specs.declared.Kind.{Kind}
use Rattle.recount.specs.declared.Kind.TheVariants.{Percentage, Capped, Fixed, Multiple}

-- the meaning of a kind of split
abbrev pub kind : Kind → Meaning
kind Percentage = percentage
kind Capped = capped_block
kind Fixed = fixed_block
kind Multiple = multiple_block

-- the first block of a row and the row below it, if it may have one
abbrev pub Fronts : Agreement → Option Front → Type 0
Fronts t None = opens t ≡ false
Fronts t (Some f) = (opens t ≡ true) × (f.block ≡ first_of t) × (agreed f.below ≡ after_first t)
