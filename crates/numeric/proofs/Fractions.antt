-- The quotient and the order of two values that are not negative, by any fractions that they equal, and what the cast to an integer makes of one. The format is a parameter. Assumes nothing.
-- Stays: what Units, Truncation, Nanoseconds and the credit's laws cite; std's laws of quotients and orders are of positive values or of rounded ones.
use Rattle.std.proofs.Common.{◌≡◌, ℕ, ◌-◌, ◌*◌, ◌/◌, ◌^◌, ◌<◌, ◌≤◌, min, Bool, true, false, ◌&&◌, ◌||◌, T, eqb, ltb, sym, ap, ◌∙◌, subst, true≢false, le_of_eq, le_of_lt, lt_irrefl, mul_assoc, mul_comm, mul-pos, mul_left_comm, eqb→eq, ltb→lt, ne_eqb}
use lib.Ieee.{Float, nan, inf, fin, Format, up, down, div, round, le, to_unsigned}
use lib.Ieee.Exact.{HasValue}
use lib.Ieee.Fits.{down_pos, and_l}
use lib.Ieee.Nearest.{div_same}
use lib.Ieee.Order.{transfer, round_mono}
use lib.Ieee.Positive.{first_pos}
use lib.Ieee.Scale.{round_same}

-- the quotient of a / c and b / d
pub div_value : (f : Format) (x y : Float) (a c b d : ℕ) → 0 < c → 0 < d → 0 < b → HasValue x false a c → HasValue y false b d → div f x y ≡ round f false (a * d) (b * c)
unfolding div
div_value f nan y a c b d C D B h k = absurd h
div_value f (inf s) y a c b d C D B h k = absurd h
div_value f (fin s m e) nan a c b d C D B h k = absurd k
div_value f (fin s m e) (inf t) a c b d C D B h k = absurd k
div_value f (fin true m e) (fin t n g) a c b d C D B h k = absurd (true≢false h.0)
div_value f (fin false m e) (fin true n g) a c b d C D B h k = absurd (true≢false k.0)
div_value f (fin false m e) (fin false n g) a c b d C D B h k =
    let N : 0 < n * up g = first_pos (n * up g) d (subst (λ (z : ℕ). 0 < z) (sym k.1) (mul-pos B (down_pos g))) in
    simp (ne_eqb n 0 (λ (z : n ≡ 0). lt_irrefl 0 (subst (λ (w : ℕ). 0 < w) z (first_pos n (up g) N))))
    (round_same f false (m * up e * down g) (n * up g * down e) (a * d) (b * c) (mul-pos N (down_pos e)) (mul-pos B C) (cross (m * up e) (down e) (n * up g) (down g) h.1 k.1))
  where
    cross : (M E N G : ℕ) → M * c ≡ a * E → N * d ≡ b * G → M * G * (b * c) ≡ a * d * (N * E)
    cross M E N G h k =
        let p : M * c * (b * G) ≡ a * E * (N * d) = ap (λ (z : ℕ). z * (b * G)) h ∙ ap (λ (z : ℕ). a * E * z) (sym k) in
        simp (mul_assoc, mul_comm, mul_left_comm) (simp (mul_assoc, mul_comm, mul_left_comm) at p)

-- ---- their order, from that of the fractions and back
pub both-le : (a b : ℕ) → T (ltb a b || (eqb a b && true)) → a ≤ b
both-le a b t = go (ltb a b) (ltb→lt a b) t
  where
    go : (x : Bool) → (T x → a < b) → T (x || (eqb a b && true)) → a ≤ b
    go true h u = le_of_lt (h tt)
    go false h u = le_of_eq (eqb→eq a b (and_l (eqb a b) true u))

le→values : (x y : Float) (a c b d : ℕ) → 0 < c → 0 < d → HasValue x false a c → HasValue y false b d → T (le x y) → a * d ≤ b * c
unfolding le
le→values nan y a c b d C D h k l = absurd h
le→values (inf s) y a c b d C D h k l = absurd h
le→values (fin s m e) nan a c b d C D h k l = absurd k
le→values (fin s m e) (inf t) a c b d C D h k l = absurd k
le→values (fin true m e) (fin t n g) a c b d C D h k l = absurd (true≢false h.0)
le→values (fin false m e) (fin true n g) a c b d C D h k l = absurd (true≢false k.0)
le→values (fin false m e) (fin false n g) a c b d C D h k l =
    transfer a b c d (m * up e) (n * up g) (down e) (down g) (down_pos e) (down_pos g) (sym h.1) (sym k.1) (both-le (m * up e * down g) (n * up g * down e) l)

-- of two fractions the larger rounds to the larger value
pub round_order : (f : Format) (a b c d x y z w : ℕ) → 0 < b → 0 < d → 0 < y → 0 < w → HasValue (round f false a b) false x y → HasValue (round f false c d) false z w → a * d ≤ c * b → x * w ≤ z * y
round_order f a b c d x y z w B D Y W h k l = le→values (round f false a b) (round f false c d) x y z w Y W h k (round_mono f a b c d B D l)

-- ---- cut to a whole number
pub to_unsigned_value : (w : ℕ) (x : Float) (a c : ℕ) → 0 < c → HasValue x false a c → to_unsigned w x ≡ min (a / c) (2 ^ w - 1)
unfolding to_unsigned
to_unsigned_value w nan a c C h = absurd h
to_unsigned_value w (inf s) a c C h = absurd h
to_unsigned_value w (fin true m e) a c C h = absurd (true≢false h.0)
to_unsigned_value w (fin false m e) a c C h = ap (λ (z : ℕ). min z (2 ^ w - 1)) (div_same (m * up e) (down e) a c (down_pos e) C h.1)
