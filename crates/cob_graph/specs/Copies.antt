-- Which programs with copies written in are a given program's: equal but for the copies, each of which is the
-- paragraphs of its range, with copies written in.
use Rattle.std.specs.Prelude.{◌≡◌, ◌≤◌, ℕ, zero, suc, ◌-◌, is_some}
use Rattle.std.specs.Option.{option_map_or}
use Rattle.cob_program.specs.Act.{Stmt, MkStmt, Stmts, no_stmts, more_stmts, Phrase, left_out, given, Act, move, arith, if_, evaluate, perform, go, nothing, stop, open_files, close_files, read, write, show, Whens, no_whens, more_whens, MkWhen, Body, range, inline, Program}
use Rattle.cob_runs.specs.Acts.{file_from}
use Rattle.cob_runs.specs.Steps.{body_at}
use Rattle.cob_graph.specs.Laid.{Laid, MkLaid, LaidList, no_laid, more_laid, LaidPhrase, no_phrase, a_phrase, LaidAct, moving, showing, skipping, going, ending, computing, deciding, choosing, performing, opening, closing, reading, writing, LaidWhens, no_laid_whens, more_laid_whens, LaidBody, own_list, copy, LaidParas, no_laid_paras, more_laid_paras}

-- the file of a record, 0 where it is none's
abbrev pub file_of : Program → ℕ → ℕ
file_of p r = option_map_or (λ f. f) (file_from p.layout 0 p.layout.files r) 0

-- Each GO TO goes to a paragraph from lo to hi, those of the copy that it lies in.
module _ (p : Program) where
  abbrev mutual
    pub IsLaid : ℕ → ℕ → Stmt → Laid → Type 0
    IsLaid lo hi (MkStmt number line a) (MkLaid n x) = (number ≡ n) × IsLaidAct lo hi a x

    pub AreLaid : ℕ → ℕ → Stmts → LaidList → Type 0
    AreLaid lo hi no_stmts no_laid = Unit {0}
    AreLaid lo hi (more_stmts s ss) (more_laid x xs) = IsLaid lo hi s x × AreLaid lo hi ss xs
    AreLaid lo hi no_stmts (more_laid x xs) = ⊥
    AreLaid lo hi (more_stmts s ss) no_laid = ⊥

    pub IsLaidPhrase : ℕ → ℕ → Phrase → LaidPhrase → Type 0
    IsLaidPhrase lo hi left_out no_phrase = Unit {0}
    IsLaidPhrase lo hi (given ss) (a_phrase xs) = AreLaid lo hi ss xs
    IsLaidPhrase lo hi left_out (a_phrase xs) = ⊥
    IsLaidPhrase lo hi (given ss) no_phrase = ⊥

    pub IsLaidAct : ℕ → ℕ → Act → LaidAct → Type 0
    IsLaidAct lo hi (move x places) a = a ≡ moving
    IsLaidAct lo hi (show xs) a = a ≡ showing
    IsLaidAct lo hi nothing a = a ≡ skipping
    IsLaidAct lo hi (go to) a = (a ≡ going to) × (lo ≤ to) × (to ≤ hi)
    IsLaidAct lo hi stop a = a ≡ ending
    IsLaidAct lo hi (open_files os) a = a ≡ opening os
    IsLaidAct lo hi (close_files fs) a = a ≡ closing fs
    IsLaidAct lo hi (write r from) a = a ≡ writing (file_of p r) (is_some from)
    IsLaidAct lo hi (arith s targets remainder size fine) (computing a b) = IsLaidPhrase lo hi size a × AreLaid lo hi fine b
    IsLaidAct lo hi (if_ t held other) (deciding u a b) = (t ≡ u) × AreLaid lo hi held a × AreLaid lo hi other b
    IsLaidAct lo hi (evaluate ws other) (choosing xs b) = AreLaidWhens lo hi ws xs × AreLaid lo hi other b
    IsLaidAct lo hi (perform body turns) (performing x t) = (turns ≡ t) × IsLaidBody lo hi body x
    IsLaidAct lo hi (read f into end fine) (reading g h a b) =
        (f ≡ g) × (is_some into ≡ h) × IsLaidPhrase lo hi end a × AreLaid lo hi fine b
    IsLaidAct lo hi _ _ = ⊥

    pub AreLaidWhens : ℕ → ℕ → Whens → LaidWhens → Type 0
    AreLaidWhens lo hi no_whens no_laid_whens = Unit {0}
    AreLaidWhens lo hi (more_whens (MkWhen ts ss) ws) (more_laid_whens us xs vs) = (ts ≡ us) × AreLaid lo hi ss xs × AreLaidWhens lo hi ws vs
    AreLaidWhens lo hi no_whens (more_laid_whens us xs vs) = ⊥
    AreLaidWhens lo hi (more_whens w ws) no_laid_whens = ⊥

    pub IsLaidBody : ℕ → ℕ → Body → LaidBody → Type 0
    IsLaidBody lo hi (inline ss) (own_list xs) = AreLaid lo hi ss xs
    IsLaidBody lo hi (range first last) (copy n ps) = (first ≡ n) × AreLaidParas first last first (suc last - first) ps
    IsLaidBody lo hi (inline ss) (copy n ps) = ⊥
    IsLaidBody lo hi (range first last) (own_list xs) = ⊥

    -- Copies of so many paragraphs, from one on.
    pub AreLaidParas : ℕ → ℕ → ℕ → ℕ → LaidParas → Type 0
    AreLaidParas lo hi from zero no_laid_paras = Unit {0}
    AreLaidParas lo hi from (suc n) (more_laid_paras xs ps) = AreLaid lo hi (body_at p from) xs × AreLaidParas lo hi (suc from) n ps
    AreLaidParas lo hi from zero (more_laid_paras xs ps) = ⊥
    AreLaidParas lo hi from (suc n) no_laid_paras = ⊥
