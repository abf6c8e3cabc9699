-- `line_table::line_at` meets its contract. Assumes nothing.
use Rattle.std.proofs.Common.{◌≡◌, ℕ, ◌-◌, ◌<◌, Option, Some, None, List, [], refl, ap, sym, ◌∙◌, length, drop, drop_of_length-le, Bor, unwrap_or, inl, inr, arith}
use Rattle.std.proofs.lemmas.List.{take_all, length-drop}
use Rattle.std.specs.Slice.{IsGetRangeResult}
use Rattle.line_table_model.specs.Rows.{kind_from}
use Rattle.line_table_model.proofs.Numbers.{line_made, line-dropped}
use Rattle.line_table.proofs.line_at.Goals as goal

-- what stands from a position on, or nothing behind the end
got : (ns : List ℕ) (at : ℕ) (r : Option (Bor (List ℕ))) (none p : Bor (List ℕ)) → none.now ≡ [] → IsGetRangeResult ns at (length ns) r
    → p ≡ unwrap_or r none → p.now ≡ drop at ns
got ns at (Some q) none p n g e = simp (e, g.0.2) (take_all (length ns - at) (drop at ns) (omega (arith, length-drop at ns)))
got ns at None none p n g e =
    let h : length ns < at = elim g.0 [ inl h ↦ h | inr h ↦ absurd (omega arith) ] in
    simp (e, n) (sym (drop_of_length-le ns {i = at} (omega arith)))

pub returns : goal.returns
returns c =
    let t = c.args.table.now in
    let n = c.unwrap_or-numbers.result.now in
    let d = got t c.args.at c.get.result _ c.unwrap_or-numbers.result refl c.get.ensures.lookup c.unwrap_or-numbers.ensures in
    line_made n 0 _ _ _ _ _ _ _ _ _ (c.kind_from.ensures ∙ ap kind_from c.number_at.ensures) c.number_at-2.ensures c.number_at-3.ensures c.number_at-4.ensures c.number_at-5.ensures c.number_at-6.ensures c.number_at-7.ensures c.number_at-8.ensures c.number_at-9.ensures
    ∙ rw d (line-dropped t c.args.at)
