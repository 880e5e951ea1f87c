-- Fixed blocks mean what is said of them.
use Rattle.std.specs.Prelude.{◌≡◌, ℕ, true, refl}
use Rattle.std.proofs.Common.{arith, length-set}
use Rattle.std.proofs.lemmas.List.{length-map}
use Rattle.std.proofs.lemmas.Bool.Decides.{nat_tests}
use Rattle.rules.specs.Meaning.{Agreement}
use Rattle.rules.specs.Blocks.{is_blocks, blocks, block_shares, modest}
use Rattle.rules.specs.Blocked.{booked, block_here, block_there, modest_from}
use Rattle.rules.specs.Means.{HasBlocks, SharesBlocks, MeansBlocks, BlocksMean}
use Rattle.rules.proofs.Conditions.{blocks_general}

asks : (least most : ℕ) (t : Agreement) → is_blocks least most t ≡ true → HasBlocks least most t
asks least most t lawful =
    record { enough = grind (arith, nat_tests); few = grind (arith, nat_tests); general = blocks_general least most t lawful; room = (booked least most t lawful).room }

takes : (least most : ℕ) (t : Agreement) → HasBlocks least most t → is_blocks least most t ≡ true
takes least most t h =
    let fine : modest t.nominations ≡ true = modest_from t.nominations (λ i b. h.general.each i) in
    let e = h.enough in
    let f = h.few in
    let b = h.general.balances in
    let l = h.general.leaves in
    let r = h.room in
    grind (arith, nat_tests)

shares : (least most : ℕ) (t : Agreement) (e : ℕ) → is_blocks least most t ≡ true → SharesBlocks t e (block_shares t e)
shares least most t e lawful =
    let b = booked least most t lawful in
    record { places = simp (length-set, length-map); balance = block_here t e t.balance b.within refl; others = block_there t e }

means : (least most : ℕ) → MeansBlocks least most (blocks least most)
means least most = record { asks = asks least most; takes = takes least most; shares = λ t p e. shares least most t e }

pub blocks_mean : BlocksMean (blocks 2 2) (blocks 3 8)
blocks_mean = record { two = means 2 2; three_to_eight = means 3 8 }
