-- What there is one of for each class. Definitions only.
use Rattle.config.specs.declared.config.Priority.{Priority}
use Rattle.config.specs.declared.config.Priority.TheVariants.{P0, P1, P2}
use Rattle.config.specs.declared.per_class.PerClass.{PerClass}

abbrev pub per_class : {T : Type 0} → T → T → T → PerClass T
per_class p0 p1 p2 = record { p0 = p0; p1 = p1; p2 = p2 }

abbrev pub value_at : {T : Type 0} → PerClass T → Priority → T
value_at x P0 = x.p0
value_at x P1 = x.p1
value_at x P2 = x.p2

-- another value for a class; the others keep theirs
abbrev pub with_value : {T : Type 0} → PerClass T → Priority → T → PerClass T
with_value x P0 v = per_class v x.p1 x.p2
with_value x P1 v = per_class x.p0 v x.p2
with_value x P2 v = per_class x.p0 x.p1 v
