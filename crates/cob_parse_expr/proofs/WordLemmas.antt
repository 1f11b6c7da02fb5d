-- One reserved word is no other.
use Rattle.std.proofs.Common.{◌≡◌, Bool, true, false, Some, refl, sym, ap}
use Rattle.std.proofs.lemmas.Bool.Decides.{same_from_decides}
use Rattle.std.proofs.lemmas.Slice.Eq.{bytes_eq-Decides}
use denote.Enum.Bare.{sameb, same_true, true_same}
use Rattle.cob_tree.specs.contracts.keyword.Keyword.{the_type}
use Rattle.cob_tree.specs.declared.keyword.Keyword.{Keyword}
use Rattle.cob_tree.specs.Keywords.{text_of}
use Rattle.cob_tree.proofs.KeywordLemmas.{texts-differ}
use Rattle.cob_parse_expr.specs.LexemeClasses.{same_key, found, the_key}

-- two reserved words are one exactly where their texts are
pub one_by_text : (k j : Keyword) → sameb the_type k j ≡ same_key k j
one_by_text k j =
    let texts = bytes_eq-Decides (text_of k) (text_of j) in
    same_from_decides {P = k ≡ j} (sameb the_type k j) (same_key k j)
    (λ e. same_true the_type tt k j e, λ e. true_same the_type k j e)
    (λ e. texts-differ k j (texts.0 e), λ e. texts.1 (ap text_of e))

same_is : (k : Keyword) → same_key k k ≡ true
same_is k = (bytes_eq-Decides (text_of k) (text_of k)).1 refl

-- a word is of its own class
pub own_key : (k : Keyword) → the_key k k ≡ Some tt
own_key k = ap found (same_is k)

-- no other word is of that class
pub only_the : (k j : Keyword) (x : Unit {0}) → the_key k j ≡ Some x → j ≡ k
only_the k j x e = go (same_key k j) refl e
  where
    go : (b : Bool) → same_key k j ≡ b → found b ≡ Some x → j ≡ k
    go true eb e0 = texts-differ j k (sym ((bytes_eq-Decides (text_of k) (text_of j)).0 eb))
    go false eb e0 = absurd cc
