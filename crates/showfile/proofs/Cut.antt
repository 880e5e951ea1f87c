-- What is printed of the bytes that a reader has, of which one more is read than a file can have.
use Rattle.std.proofs.Common.{◌≡◌, ℕ, ◌+◌, ◌<◌, ◌≤◌, List, [], ◌++◌, length, take, None, Some, Option, subst, ap, ◌∙◌, ⊎_elim, arith}
use Rattle.std.specs.Prelude.{IfSome, option_map}
use Rattle.std.specs.Io.KnownBytes.{Appends}
use Rattle.std.proofs.lemmas.List.{take_all, length-take-le}
use Rattle.std.proofs.lemmas.Bool.{cases_lt}
use Rattle.std.proofs.lemmas.Bool.Decides.{nat_tests}
use Rattle.files.specs.Formats.{most_bytes}
use Rattle.listing.specs.Texts.{listing_of}

-- bytes that are too many are so after the first that is
pub cut : (bs : List ℕ) → listing_of (take (most_bytes + 1) bs) ≡ listing_of bs
cut bs =
    ⊎_elim
    (λ (h : most_bytes < length bs). let long : length (take (most_bytes + 1) bs) ≡ most_bytes + 1 = length-take-le (most_bytes + 1) bs (omega (arith, h)) in grind (arith, nat_tests, long, h))
    (λ (h : length bs ≤ most_bytes). ap listing_of (take_all (most_bytes + 1) bs (omega (arith, h))))
    (cases_lt most_bytes (length bs))

-- where the bytes are known, what was read and printed of them is that of all
whole : (known old new : Option (List ℕ)) (read text : List ℕ) → IfSome (option_map (take (most_bytes + 1)) known) (λ bs. read ≡ bs) → text ≡ listing_of read → Appends old new text → IfSome known (λ bs. Appends old new (listing_of bs))
whole None old new read text held is wrote = tt
whole (Some bs) old new read text held is wrote = subst (Appends old new) (is ∙ ap listing_of held ∙ cut bs) wrote

-- the same of a reader, and a list that was empty
pub shown : {R : Type 0} (remaining : R → Option (List ℕ)) (reader inner : R) (limit : ℕ) (old new : Option (List ℕ)) (start read text : List ℕ) → inner ≡ reader → limit ≡ most_bytes + 1 → start ≡ [] → IfSome (option_map (take limit) (remaining inner)) (λ bs. read ≡ start ++ bs) → text ≡ listing_of read → Appends old new text → IfSome (remaining reader) (λ bs. Appends old new (listing_of bs))
shown remaining reader inner limit old new start read text same most empty held is wrote =
    whole (remaining reader) old new read text (rw (same, most, empty) at held) is wrote
