-- A hash byte by byte, over the chunks that a list is cut into. Assumes nothing.
-- Stays: what `join_eight` and `hash_bytes` cite; std has no fold over chunks.
use Rattle.std.proofs.Common.{◌≡◌, ℕ, zero, suc, ◌+◌, ◌*◌, List, [], ◌∷◌, length, get_or, take, drop, refl, sym, ap, ◌∙◌, arith}
use Rattle.std.proofs.lemmas.List.{take-append-drop, drop-drop}
use Rattle.std.proofs.lemmas.List.Sums.{fold-append}
use Rattle.std.specs.List.{fold}
use Rattle.std.specs.Simd.{first_chunks}
use native.Mathlib.Nat.{suc-mul}
use Rattle.queue.specs.Coalescing.{joined_hash, joined_all}

pub eight_joined :
    (h : ℕ) (l : List ℕ) → length l ≡ 8
    → joined_all h l
    ≡ joined_hash
    (joined_hash
    (joined_hash
    (joined_hash
    (joined_hash (joined_hash (joined_hash (joined_hash h (get_or l 0 0)) (get_or l 1 0)) (get_or l 2 0)) (get_or l 3 0))
    (get_or l 4 0))
    (get_or l 5 0))
    (get_or l 6 0))
    (get_or l 7 0)
unfolding joined_all
eight_joined h (a ∷ (b ∷ (c ∷ (d ∷ (e ∷ (f ∷ (g ∷ (i ∷ [])))))))) q = refl
eight_joined h (a ∷ (b ∷ (c ∷ (d ∷ (e ∷ (f ∷ (g ∷ (i ∷ (j ∷ rest))))))))) q = absurd (omega arith)
eight_joined h (a ∷ (b ∷ (c ∷ (d ∷ (e ∷ (f ∷ (g ∷ []))))))) q = absurd (omega arith)
eight_joined h (a ∷ (b ∷ (c ∷ (d ∷ (e ∷ (f ∷ [])))))) q = absurd (omega arith)
eight_joined h (a ∷ (b ∷ (c ∷ (d ∷ (e ∷ []))))) q = absurd (omega arith)
eight_joined h (a ∷ (b ∷ (c ∷ (d ∷ [])))) q = absurd (omega arith)
eight_joined h (a ∷ (b ∷ (c ∷ []))) q = absurd (omega arith)
eight_joined h (a ∷ (b ∷ [])) q = absurd (omega arith)
eight_joined h (a ∷ []) q = absurd (omega arith)
eight_joined h [] q = absurd (omega arith)

pub joined_chunks :
    (n k h : ℕ) (xs : List ℕ) → joined_all (fold joined_all h (first_chunks n k xs)) (drop (k * n) xs) ≡ joined_all h xs
unfolding joined_all
joined_chunks n zero h xs = let none : 0 * n ≡ 0 = omega arith in ap (λ (i : ℕ). fold joined_hash h (drop i xs)) none
joined_chunks n (suc k) h xs =
    let far : suc k * n ≡ n + k * n = suc-mul k n ∙ omega arith in
    ap (λ (i : ℕ). fold joined_hash (fold joined_all (joined_all h (take n xs)) (first_chunks n k (drop n xs))) (drop i xs)) far
    ∙ ap (fold joined_hash (fold joined_all (joined_all h (take n xs)) (first_chunks n k (drop n xs)))) (sym (drop-drop (k * n) n xs))
    ∙ joined_chunks n k (joined_all h (take n xs)) (drop n xs)
    ∙ sym (fold-append joined_hash h (take n xs) (drop n xs))
    ∙ ap (fold joined_hash h) (take-append-drop n xs)
