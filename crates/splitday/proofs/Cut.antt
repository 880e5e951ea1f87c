-- What is printed of the bytes that a reader has, of which the first are read.
use Rattle.std.proofs.Common.{◌≡◌, ℕ, List, [], ◌++◌, length, take, None, Some, Option, refl, subst, ap, ◌∙◌, arith}
use Rattle.std.specs.Prelude.{IfSome, option_map}
use Rattle.std.specs.Io.KnownBytes.{Appends}
use Rattle.std.proofs.lemmas.List.{take_all, length-take}
use Rattle.dayrun.specs.Files.{most_input, files_read}
use Rattle.dayrun.specs.Texts.{day_text}

-- the part that is read says what the files are
files_cut : (bs : List ℕ) → files_read (take most_input bs) ≡ files_read bs
unfolding files_read
files_cut bs = rw (take_all most_input (take most_input bs) (omega (arith, length-take most_input bs))) refl

cut : (bs : List ℕ) → day_text (take most_input bs) ≡ day_text bs
cut bs = rw (files_cut bs) refl

-- where the bytes are known, what was read and printed of them is that of all
whole : (known old new : Option (List ℕ)) (read text : List ℕ) → IfSome (option_map (take most_input) known) (λ bs. read ≡ bs) → text ≡ day_text read → Appends old new text → IfSome known (λ bs. Appends old new (day_text bs))
whole None old new read text held is wrote = tt
whole (Some bs) old new read text held is wrote = subst (Appends old new) (is ∙ ap day_text held ∙ cut bs) wrote

-- the same of a reader, and a list that was empty
pub shown : {R : Type 0} (remaining : R → Option (List ℕ)) (reader inner : R) (limit : ℕ) (old new : Option (List ℕ)) (start read text : List ℕ) → inner ≡ reader → limit ≡ most_input → start ≡ [] → IfSome (option_map (take limit) (remaining inner)) (λ bs. read ≡ start ++ bs) → text ≡ day_text read → Appends old new text → IfSome (remaining reader) (λ bs. Appends old new (day_text bs))
shown remaining reader inner limit old new start read text same most empty held is wrote =
    whole (remaining reader) old new read text (rw (same, most, empty) at held) is wrote
