-- The laws of specs/Laws. Assumes nothing.
use Rattle.std.specs.Prelude.{Ok, Err}
use Rattle.refusals.proofs.Unbroken.{unbroken-first, kept-unbroken, unbroken-append, unbroken-left, unbroken-right}
use Rattle.settings_model.specs.Checks.{ranged, values_of, at_odds, checks, radio_checks}
use Rattle.settings_model.specs.Laws.{UnbrokenWhereChecked, KeptWhereChecked, UnbrokenWhereRadioChecked, KeptWhereRadioChecked}
use Rattle.settings_model.proofs.CheckLaws.{unbroken-radio, radio-unbroken, agrees, unbroken-checked, checked-ranged}

pub unbroken-where-checked : UnbrokenWhereChecked
unfolding checks
unbroken-where-checked s = (
  λ u. unbroken-checked s (unbroken-left (ranged 0 (values_of s)) (at_odds s) u) (unbroken-right (ranged 0 (values_of s)) (at_odds s) u),
  λ k. unbroken-append (ranged 0 (values_of s)) (at_odds s) (checked-ranged s k) (agrees s k),
)

pub kept-where-checked : KeptWhereChecked
kept-where-checked s = (
  λ e. (unbroken-where-checked s).0 (kept-unbroken (checks s) e),
  λ k. unbroken-first Err (Ok tt) (checks s) ((unbroken-where-checked s).1 k),
)

pub unbroken-where-radio-checked : UnbrokenWhereRadioChecked
unbroken-where-radio-checked b = (unbroken-radio b, radio-unbroken b)

pub kept-where-radio-checked : KeptWhereRadioChecked
kept-where-radio-checked b = (
  λ e. unbroken-radio b (kept-unbroken (radio_checks b) e),
  λ k. unbroken-first Err (Ok tt) (radio_checks b) (radio-unbroken b k),
)
