-- Blocks in use, after one was taken or given back.
use Rattle.std.proofs.Common.{◌≡◌, ◌≢◌, ℕ, List, ℤ, get_or, Some, None, ap, sym, ◌∙◌, subst, get_or-set_other}
use Rattle.std.specs.Prelude.{Option, IsSome}
use Rattle.block_store.specs.Held.{Held, block_at, Takes, Gives}

some_of : (b : Option (List ℤ)) (row : List ℤ) → b ≡ Some row → IsSome b
some_of None row e = absurd (cc)
some_of (Some r) row e = search

not_none : (b : Option (List ℤ)) → b ≡ None → IsSome b → ⊥
not_none None e h = absurd (cc)
not_none (Some row) e h = absurd (cc)

pub taken_live : (h new : Held) (id : ℕ) → Takes h new id → IsSome (block_at new id)
taken_live h new id takes = some_of (block_at new id) takes.row takes.is

pub taken_differs : (h new : Held) (id other : ℕ) → Takes h new id → IsSome (block_at h other) → other ≢ id
taken_differs h new id other takes live same = not_none (block_at h other) (ap (block_at h) same ∙ takes.fresh) live

pub stays_live : (h new : Held) (id other : ℕ) → Takes h new id → IsSome (block_at h other) → IsSome (block_at new other)
stays_live h new id other takes live = subst (λ b. IsSome b) (sym (ap (λ blocks. get_or blocks other None) takes.blocks ∙ get_or-set_other h.blocks id other (Some takes.row) None (taken_differs h new id other takes live))) live

pub given_stays : (h new : Held) (id other : ℕ) → Gives h new id → other ≢ id → IsSome (block_at h other) → IsSome (block_at new other)
given_stays h new id other gives off live = subst (λ b. IsSome b) (sym (ap (λ blocks. get_or blocks other None) gives.blocks ∙ get_or-set_other h.blocks id other None None off)) live
