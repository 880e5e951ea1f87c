use Rattle.std.proofs.Common.{◌≡◌, ◌<◌, ◌^◌, [], length, Some, Err, string_bytes, sym, ap, ◌∙◌, arith, rules}
use Rattle.text.specs.declared.Lines.{Lines}
use Rattle.text.specs.Left.{lines_left}
use Rattle.text.specs.Words.{lines_of}
use Rattle.seasontext.specs.Openings.{reached}
use Rattle.seasontext.specs.Seasons.{until_terms}
use Rattle.seasontext.proofs.Numbered.{few_lines}
use Rattle.seasontext.proofs.season.Goals as goal

pub find_terms-requires : goal.find_terms-requires
find_terms-requires c =
    let first : c.zip-lines.result.a.start ≡ 1 = search rules in
    let second : c.zip-lines.result.b ≡ c.of.result = search rules in
    let many = ap (λ (l : Lines). length (lines_left l)) second in
    let same = ap (λ ls. length ls) c.of.ensures.lines in
    let few = few_lines c.args.input.now in
    let long : length c.args.input.now < 2 ^ 63 = search rules in
    omega (arith, first, many, same, few, long)

pub returns-in_ok-write-in-Some-Err : goal.returns-in_ok-write-in-Some-Err
returns-in_ok-write-in-Some-Err c =
    let q = c.args.quiet in
    let n = c.find_terms.new.lines.a.start in
    let ls = lines_left c.find_terms.new.lines.b in
    let first : c.zip-lines.result.a.start ≡ 1 = search rules in
    let second : c.zip-lines.result.b ≡ c.of.result = search rules in
    let all : lines_left c.zip-lines.result.b ≡ lines_of c.args.input.now = ap (λ (l : Lines). lines_left l) second ∙ c.of.ensures.lines in
    let found : c.in_ok-terms.field-0 ≡ Some (Err c.in-Some-Err.fault) = search rules in
    let told = c.in_ok-terms.ensures.told q in
    c.in_ok-write-in-Some-Err.ensures.bytes
    ∙ ap (λ f. reached q n (string_bytes c.find_terms.new.text) f ls) (sym found)
    ∙ told
    ∙ ap (λ k. until_terms q k (string_bytes c.new-text.result) (lines_left c.zip-lines.result.b)) first
    ∙ ap (λ t. until_terms q 1 t (lines_left c.zip-lines.result.b)) c.new-text.ensures.bytes
    ∙ ap (λ x. until_terms q 1 [] x) all
