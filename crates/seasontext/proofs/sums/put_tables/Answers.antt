use Rattle.std.proofs.Common.{◌≡◌, ◌++◌, string_bytes, ap, ◌∙◌}
use Rattle.std.specs.List.{flat_map}
use Rattle.std.proofs.lemmas.Result.{IfOk-weaker}
use Rattle.seasontext.specs.Sums.{suppliers, sent_to, period_table, supplier_text, supplier_table, tables_text, first_heading, second_heading}
use Rattle.seasontext.proofs.Totals.{four_parts}
use Rattle.seasontext.proofs.Suppliers.{parts_of_parts}
use Rattle.seasontext.proofs.sums.put_tables.Goals as goal

pub returns : goal.returns
unfolding tables_text
returns c =
    let ls = c.args.lines.now in
    let rows : flat_map (supplier_text ls) c.in_ok-suppliers.suppliers.keys ≡ supplier_table ls = ap (flat_map (supplier_text ls)) c.in_ok-suppliers.ensures ∙ parts_of_parts (supplier_text ls) (λ k. sent_to k ls) suppliers in
    IfOk-weaker c.put_suppliers.result _ _ (λ _ h. four_parts (string_bytes c.args.text.now) first_heading (period_table ls c.args.split.now) second_heading (supplier_table ls) (string_bytes c.write.new.self) (string_bytes c.put_days.new.text) (string_bytes c.write-2.new.self) (string_bytes c.put_suppliers.new.text) c.in_ok-write.ensures.bytes c.in_ok-put_days.ensures c.in_ok-write-2.ensures.bytes (h ∙ ap (λ x. string_bytes c.write-2.new.self ++ x) rows)) c.put_suppliers.ensures
