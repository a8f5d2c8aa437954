-- What a call answers where it refuses.
use Rattle.std.specs.Prelude.{ℕ, Result, Err}
use Rattle.terms.specs.declared.Refusal.{Refusal}
use Rattle.terms.specs.declared.Refused.{Refused}

-- refused for a reason, at a place
abbrev pub refuse : {A : Type 0} → Refusal → ℕ → Result A Refused
refuse why place = Err (record { why = why; place = place })
