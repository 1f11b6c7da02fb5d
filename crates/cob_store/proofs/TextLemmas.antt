-- Texts that are cut or filled up.
use Rattle.std.proofs.Common.{◌≡◌, ℕ, ◌+◌, ◌-◌, ◌≤◌, min, List, ◌++◌, length, take, drop, replicate, ap, ◌∙◌, sym, ⊎_elim, arith}
use Rattle.std.proofs.lemmas.Bool.{cases_lt}
use Rattle.std.proofs.lemmas.List.{take_all, take_at, take-append-le, take-replicate, drop_all, append-nil, length-append, length-drop, length-replicate, length-take}
use Rattle.std.proofs.Math.Seq.{take-append-add}
use borrow.Rule.Slice.PartMut.{put_mid}
use Rattle.cob_runs.specs.Contents.{fitted}
use Rattle.cob_store.proofs.Parts.{put_mid_written}

fitted_short : (n : ℕ) (text : List ℕ) (count : ℕ) → length text ≤ n → count ≡ length text → take count text ++ replicate (n - count) 32 ≡ fitted n text
fitted_short n text count short is =
    let room : n ≡ length text + (n - count) = omega arith in
    ap (λ xs. xs ++ replicate (n - count) 32) (take_all count text (omega arith))
    ∙ (ap (λ xs. text ++ xs) (sym (take-replicate (n - count) n 32 (omega arith)))
    ∙ (sym (take-append-add text (replicate n 32) (n - count))
    ∙ ap (λ k. take k (text ++ replicate n 32)) (sym room)))

fitted_long : (n : ℕ) (text : List ℕ) (count : ℕ) → n ≤ length text → count ≡ n → take count text ++ replicate (n - count) 32 ≡ fitted n text
fitted_long n text count long is =
    let none : n - count ≡ 0 = omega arith in
    ap (λ k. take count text ++ replicate k 32) none
    ∙ (append-nil (take count text)
    ∙ (ap (λ k. take k text) is
    ∙ sym (take-append-le n text (replicate n 32) long)))

pub fitted_is : (n : ℕ) (text : List ℕ) (count : ℕ) → count ≡ min (length text) n → take count text ++ replicate (n - count) 32 ≡ fitted n text
fitted_is n text count is =
    ⊎_elim (λ l. fitted_short n text count (omega arith) (omega arith)) (λ l. fitted_long n text count (omega arith) (omega arith)) (cases_lt (length text) n)

-- a text at the beginning, and spaces behind it
pub text_written : (old text ys zs : List ℕ) (count : ℕ) → count ≡ min (length text) (length old) → ys ≡ take count text →
    zs ≡ replicate (length old - count) 32 →
    put_mid count (length (ys ++ drop count old) - count) (ys ++ drop count old) zs ≡ fitted (length old) text
text_written old text ys zs count is front behind =
    let short : length ys ≡ count = ap length front ∙ (length-take count text ∙ omega arith) in
    let all : length (ys ++ drop count old) ≡ length old = omega (arith, length-append ys (drop count old), length-drop count old) in
    let rest : length zs ≡ length old - count = ap length behind ∙ length-replicate (length old - count) 32 in
    put_mid_written (ys ++ drop count old) zs count (length (ys ++ drop count old) - count) (omega arith)
    ∙ (ap (λ xs. take count (ys ++ drop count old) ++ zs ++ xs) (drop_all (count + length zs) (ys ++ drop count old) (omega arith))
    ∙ (append-nil (take count (ys ++ drop count old) ++ zs)
    ∙ (ap (λ xs. xs ++ zs) (take_at ys (drop count old) count short ∙ front)
    ∙ (ap (λ xs. take count text ++ xs) behind ∙ fitted_is (length old) text count is))))
