-- Products of numbers in two halves, with the half's size as a parameter. Assumes nothing.
-- Stays: what `wrapping_mul` cites; std has no product by halves.
use Rattle.std.proofs.Common.{◌≡◌, ℕ, ◌+◌, ◌*◌, ◌/◌, ◌%◌, sym, ap, ◌∙◌, add_assoc, mul_assoc, mul_comm, add-mul, div-add-mod', mul-add, mul_left_comm}
use native.Mathlib.Nat.{add-mod, mul-add-mod_self_right}

-- the product of two numbers in halves, as the four products of their halves
in_halves : (B a1 a0 b1 b0 : ℕ) → (a1 * B + a0) * (b1 * B + b0) ≡ a1 * b1 * (B * B) + ((a1 * b0 + a0 * b1) * B + a0 * b0)
in_halves B a1 a0 b1 b0 = simp (add-mul, mul-add, mul_assoc, mul_comm, mul_left_comm, add_assoc)

-- of what is multiplied by B, only the rest by B counts modulo B * B
low_half : (B x y : ℕ) → (x % B * B + y) % (B * B) ≡ (x * B + y) % (B * B)
low_half B x y =
    sym (ap (λ (z : ℕ). (z * B + y) % (B * B)) (sym (div-add-mod' x B))
    ∙ ap (λ (z : ℕ). (z + y) % (B * B)) (add-mul (x / B * B) (x % B) B)
    ∙ ap (λ (z : ℕ). (z + x % B * B + y) % (B * B)) (mul_assoc (x / B) B B)
    ∙ ap (λ (z : ℕ). z % (B * B)) (add_assoc (x / B * (B * B)) (x % B * B) y)
    ∙ mul-add-mod_self_right (x / B) (B * B) (x % B * B + y))

-- the product modulo B * B needs the mixed products only modulo B, and the upper one not at all
pub wrapped : (B a b : ℕ) →
    ((a / B * (b % B) % B + a % B * (b / B) % B) % B * B + a % B * (b % B)) % (B * B) ≡ a * b % (B * B)
wrapped B a b =
    ap (λ (z : ℕ). (z * B + a % B * (b % B)) % (B * B)) (sym (add-mod (a / B * (b % B)) (a % B * (b / B)) B))
    ∙ low_half B (a / B * (b % B) + a % B * (b / B)) (a % B * (b % B))
    ∙ sym (mul-add-mod_self_right (a / B * (b / B)) (B * B) ((a / B * (b % B) + a % B * (b / B)) * B + a % B * (b % B)))
    ∙ ap (λ (z : ℕ). z % (B * B)) (sym (in_halves B (a / B) (a % B) (b / B) (b % B)))
    ∙ ap (λ (z : ℕ). z * (b / B * B + b % B) % (B * B)) (div-add-mod' a B)
    ∙ ap (λ (z : ℕ). a * z % (B * B)) (div-add-mod' b B)
