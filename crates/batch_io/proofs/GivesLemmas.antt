-- What an id gives in several reads, one after the other.
use Rattle.std.proofs.Common.{◌≡◌, ℕ, ◌+◌, List, [], ◌++◌, None, Some, Option, IsSome, refl, sym, ap, ◌∙◌, length, length-append, subst, arith}
use Rattle.std.specs.Option.{option_map}
use Rattle.batch_io.specs.FilesState.{FilesState, Handle, Gives, known_handle, known_rest, moved_by}
use Rattle.batch_io.proofs.KnownLemmas.{prepend_known-nil, prepend_known-append}
use Rattle.std.specs.Io.KnownBytes.{prepend_known}

stays : (h : Handle) → h ≡ moved_by 0 h
stays h = let e : h.place ≡ h.place + 0 = omega arith in λ i. record { name = h.name; place = e i }

moves_on : (m n k : ℕ) (h : Handle) → k ≡ m + n → moved_by n (moved_by m h) ≡ moved_by k h
moves_on m n k h e = let p : (h.place + m) + n ≡ h.place + k = omega arith in λ i. record { name = h.name; place = p i }

stays_known : (o : Option Handle) → o ≡ option_map (moved_by 0) o
stays_known None = refl
stays_known (Some h) = ap (λ x. Some x) (stays h)

moves_on_known : (m n k : ℕ) (o : Option Handle) → k ≡ m + n → option_map (moved_by n) (option_map (moved_by m) o) ≡ option_map (moved_by k) o
moves_on_known m n k None e = refl
moves_on_known m n k (Some h) e = ap (λ x. Some x) (moves_on m n k h e)

pub Gives-nothing : (s : FilesState) (id : ℕ) → Gives s s id []
Gives-nothing s id = record {
  contents = refl;
  purpose = λ _. refl;
  others = λ _ _ _. refl;
  rest = prepend_known-nil (known_rest s id);
  moved = stays_known (known_handle s id);
}

pub Gives-more : (a b c : FilesState) (id : ℕ) (xs ys : List ℕ) → Gives a b id xs → Gives b c id ys → Gives a c id (xs ++ ys)
Gives-more a b c id xs ys first second = record {
  contents = second.contents ∙ first.contents;
  purpose = λ other. second.purpose other ∙ first.purpose other;
  others = λ other apart is_open. second.others other apart (subst (λ p. IsSome p) (sym (first.purpose other)) is_open) ∙ first.others other apart is_open;
  rest = first.rest ∙ ap (prepend_known xs) second.rest ∙ prepend_known-append xs ys (known_rest c id);
  moved = second.moved ∙ ap (option_map (moved_by (length ys))) first.moved ∙ moves_on_known (length xs) (length ys) (length (xs ++ ys)) (known_handle a id) (length-append xs ys);
}
