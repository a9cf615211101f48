-- A choice by a computed test, with the test's outcome kept. Assumes nothing.
-- Stays: std's `cond_both` with the two ends left out, which the hundred proofs above that cite it so don't write.
use Rattle.std.proofs.Common.{◌≡◌, Bool, true, false, cond}
use Rattle.std.proofs.lemmas.Bool.{cond_both}

pub by_test : {A : Type 0} (P : A → Type 0) (t : Bool) {x y : A} → (t ≡ true → P x) → (t ≡ false → P y) → P (cond t x y)
by_test P t {x} {y} f g = cond_both t x y P f g
