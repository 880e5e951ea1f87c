use Rattle.std.proofs.Common.{ap}
use Rattle.domain.specs.declared.terms.Terms.{Terms}
use Rattle.dayrun.specs.Calls.{site_terms}
use Rattle.dayrun.proofs.Site.{same_terms}
use Rattle.dayrun.proofs.open_site.Goals as goal

pub returns-clause-terms : goal.returns-clause-terms
returns-clause-terms c =
    let of = c.open.ensures.of.0 in
    same_terms c.open.result.terms site_terms (ap (λ (t : Terms). t.places) of) (ap (λ (t : Terms). t.days) of) (ap (λ (t : Terms). t.capacity) of)
