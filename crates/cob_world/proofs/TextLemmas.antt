-- Texts that are cut or filled up, behind others and within storage.
use Rattle.std.proofs.Common.{◌≡◌, ℕ, ◌+◌, ◌-◌, ◌≤◌, min, List, ◌++◌, length, take, drop, replicate, ap, ◌∙◌, sym, refl, arith}
use Rattle.std.proofs.lemmas.List.{take_all, take_at, take-take, drop_at, drop-drop, append_assoc, length-append, length-drop, length-replicate, length-take}
use lib.Seq.{paste}
use borrow.Rule.Slice.PartMut.{put_mid}
use Rattle.cob_runs.specs.Contents.{area, written, fitted}
use Rattle.cob_store.proofs.Parts.{put_mid_written}
use Rattle.cob_store.proofs.TextLemmas.{fitted_is}

-- bytes, as many of a text as are kept, and then spaces
pub appended : (old text ext : List ℕ) (kept all count len : ℕ) → kept ≡ min (length text) count → ext ≡ old ++ take kept text →
    len ≡ length ext → all ≡ len + (count - kept) → take all ext ++ replicate (all - len) 32 ≡ old ++ fitted count text
appended old text ext kept all count len is behind whole so =
    let none : all - len ≡ count - kept = omega arith in
    ap (λ xs. xs ++ replicate (all - len) 32) (take_all all ext (omega arith) ∙ behind)
    ∙ (ap (λ k. old ++ take kept text ++ replicate k 32) none
    ∙ (append_assoc old (take kept text) (replicate (count - kept) 32)
    ∙ ap (λ xs. old ++ xs) (fitted_is count text kept is)))

module _ (s : List ℕ) (from count at wanted kept : ℕ) (is : kept ≡ min count wanted) (room : from + count ≤ length s) where
  abbrev whole_part : List ℕ
  whole_part = take kept (drop from s) ++ replicate (wanted - kept) 32

  part_long : length (area s from count) ≡ count
  part_long = length-take count (drop from s) ∙ omega (arith, length-drop from s)

  kept_long : length (take kept (drop from s)) ≡ kept
  kept_long = length-take kept (drop from s) ∙ omega (arith, length-drop from s)

  part_is : whole_part ≡ fitted wanted (area s from count)
  part_is =
      ap (λ xs. xs ++ replicate (wanted - kept) 32) (sym (take-take kept count (drop from s) (omega arith)))
      ∙ fitted_is wanted (area s from count) kept (omega (arith, part_long))

  whole_long : length whole_part ≡ wanted
  whole_long = omega (arith, length-append (take kept (drop from s)) (replicate (wanted - kept) 32), kept_long, length-replicate {A = ℕ} (wanted - kept) 32)

  -- a part of storage that is copied to another place, and spaces behind it
  pub copied : (t zs : List ℕ) → at + wanted ≤ length s → t ≡ paste s at (drop from s) (from + kept - from) → zs ≡ replicate (wanted - kept) 32 →
      put_mid (at + kept) (at + wanted - (at + kept)) t zs ≡ written s at (fitted wanted (area s from count))
  copied t zs within after spaces =
      let head : List ℕ = take at s ++ take kept (drop from s) in
      let long : length head ≡ at + kept = length-append (take at s) (take kept (drop from s)) ∙ omega (arith, length-take at s, kept_long) in
      let as_ : t ≡ head ++ drop (at + kept) s = after ∙ ap (λ n. take at s ++ take n (drop from s) ++ drop (at + n) s) (omega arith) in
      let many : length zs ≡ wanted - kept = ap length spaces ∙ length-replicate {A = ℕ} (wanted - kept) 32 in
      let rest : drop (at + kept + length zs) t ≡ drop (at + length whole_part) s =
      sym (drop-drop (length zs) (at + kept) t)
      ∙ (ap (λ xs. drop (length zs) (drop (at + kept) xs)) as_
      ∙ (ap (drop (length zs)) (drop_at head (drop (at + kept) s) (at + kept) long)
      ∙ (drop-drop (length zs) (at + kept) s ∙ ap (λ n. drop n s) (omega (arith, whole_long))))) in
      let begin : take (at + kept) t ++ zs ≡ take at s ++ whole_part =
      ap (λ xs. take (at + kept) xs ++ zs) as_
      ∙ (ap (λ xs. xs ++ zs) (take_at head (drop (at + kept) s) (at + kept) long)
      ∙ (ap (λ xs. head ++ xs) spaces ∙ append_assoc (take at s) (take kept (drop from s)) (replicate (wanted - kept) 32))) in
      put_mid_written t zs (at + kept) (at + wanted - (at + kept)) (omega (arith, many))
      ∙ (ap (λ xs. xs ++ drop (at + kept + length zs) t) begin
      ∙ (ap (λ xs. take at s ++ whole_part ++ xs) rest
      ∙ ap (written s at) part_is))
