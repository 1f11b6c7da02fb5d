-- What waits of a file that is written, before it goes out and behind it.
use Rattle.std.proofs.Common.{◌≡◌, ℕ, ◌+◌, Bool, true, false, ◌<◌, List, [], ◌∷◌, ◌++◌, length, take, take_at, append-nil, length-append, arith, Option, Some, None, Result, Ok, Err, inl, inr, ◌⊎◌, refl, sym, ap, subst, ◌∙◌}
use Rattle.std.specs.Prelude.{option_map, unwrap_or, IfSome, IfErr, MatchResult}
use Rattle.std.specs.FinMap.{get, insert}
use Rattle.std.proofs.Math.Seq.{take-append-add}
use Rattle.batch_io.specs.FilesState.{Contents, FilesState, Told, Handle, bytes_at}
use Rattle.batch_io.specs.Wholes.{with_bytes}
use Rattle.cob_runs.specs.Files.{File, file, Mode, closed, reading, writing, bytes_in}
use Rattle.cob_world.specs.declared.files.FileMode.{FileMode}
use Rattle.cob_world.specs.declared.files.FileMode.TheVariants as mode
use Rattle.cob_world.specs.Views.{plain_mode}
use Rattle.cob_interp.specs.Told.{seen_file, IsSyncedIn, IsSynced, IsOutIn, IsOut, AgreeBut}
use Rattle.cob_interp.specs.Tracking.{Ids}
use Rattle.cob_interp.specs.Touching.{IsPartOf, IsShort, LosesOne, TouchesOne}
use Rattle.cob_interp.specs.declared.ends.RunEnd.{RunEnd}
use Rattle.cob_interp.specs.Readying.{IsRefusal, Readies, IsNamed, PutsUnder, PutsUnderPart, PutsShort, emptied_in, emptied_file}
use Rattle.cob_interp.proofs.SeenFiles.{insert_agrees, insert_gets}

-- ---- a name with more bytes at its end

appended : Contents → List ℕ → List ℕ → Contents
appended told path [] = told
appended told path (byte ∷ bytes) = insert told path (bytes_at told path ++ (byte ∷ bytes))

appended_agrees : (told : Contents) (path bytes : List ℕ) → AgreeBut told (appended told path bytes) path
unfolding appended
appended_agrees told path [] name apart = refl
appended_agrees told path (byte ∷ bytes) name apart =
    insert_agrees told path (bytes_at told path ++ (byte ∷ bytes)) name apart

appended_gets : (told : Contents) (path bytes front : List ℕ) → get told path ≡ Some front
    → get (appended told path bytes) path ≡ Some (front ++ bytes)
unfolding appended
appended_gets told path [] front e = e ∙ ap (λ (b : List ℕ). Some b) (sym (append-nil front))
appended_gets told path (byte ∷ bytes) front e =
    insert_gets told path (bytes_at told path ++ (byte ∷ bytes))
    ∙ ap (λ (c : Option (List ℕ)). Some (unwrap_or c [] ++ (byte ∷ bytes))) e

grown_by : (o : Option Told) (id : ℕ) (told : Contents) (path : List ℕ) (place : ℕ) (bytes : List ℕ)
    → option_map (λ t. t.bytes) o ≡ Some told
    → IfSome (option_map (λ t. t.handle id) o) (λ handle. handle ≡ record { name = path; place = place })
    → option_map (with_bytes id bytes) o ≡ Some (appended told path bytes)
unfolding appended
grown_by None id told path place bytes e named = cc
grown_by (Some t) id told path place [] e named = e
grown_by (Some t) id told path place (byte ∷ bytes) e named =
    let same : t.bytes ≡ told = cc in
    ap (λ (h : Handle). Some (insert t.bytes h.name (bytes_at t.bytes h.name ++ (byte ∷ bytes)))) named
    ∙ ap (λ (c : Contents). Some (insert c path (bytes_at c path ++ (byte ∷ bytes)))) same

-- ---- a part of a file

held_in : (told : Contents) (path : List ℕ) (makes : Bool) (content : Option (List ℕ)) (m : Mode) (place : ℕ)
    → IsSyncedIn told m path content place
    → IsPartOf makes (seen_file told path (file content m place)) (seen_file told path (file content m place)).content
    (get told path)
held_in told path makes content closed place s = inl refl
held_in told path makes content (reading ended) place s = inl refl
held_in told path makes content writing place s =
    let b = bytes_in (file content writing place) in
    let front : take (length s.0) (bytes_at told path ++ b) ≡ s.0 =
    ap (λ (c : Option (List ℕ)). take (length s.0) (unwrap_or c [] ++ b)) s.1 ∙ take_at s.0 b (length s.0) refl in
    inr (inl (refl, (length s.0, s.1 ∙ ap (λ (x : List ℕ). Some x) (sym front))))

-- what is told of a file is a part of it
pub part_held : (told : Contents) (path : List ℕ) (makes : Bool) (f : File) → IsSynced told path f
    → IsPartOf makes (seen_file told path f) (seen_file told path f).content (get told path)
part_held told path makes f s = held_in told path makes f.content f.mode f.place s

pub untouched_one : (a : FilesState) (path : List ℕ) (f : File) → TouchesOne a a path f
untouched_one a path f = record {
  known = λ told is. record {
    now = told;
    is = is;
    others = λ other apart. refl;
    it = λ s. part_held told path false f s;
  };
}

-- ---- bytes that are put

module _ (old new : FilesState) (ids : Ids) (place : ℕ) (path : List ℕ) (f : File) (named : IsNamed old ids place path f)
    (mode_ : f.mode ≡ writing) where
  pub put_readies : PutsUnder old new ids place (bytes_in f)
      → Readies old new path (λ told now. IsOut told now path f)
  put_readies puts = record {
    well = puts.well;
    known = λ told e. record {
      now = appended told path (bytes_in f);
      is = puts.grows ∙ grown_by old.told puts.id told path f.place (bytes_in f) e (named puts.id true puts.is mode_);
      others = appended_agrees told path (bytes_in f);
      it = subst (λ (m : Mode). IsOutIn told (appended told path (bytes_in f)) path m f) (sym mode_)
          (λ front is. appended_gets told path (bytes_in f) front is);
    };
  }

  part_put : (told : Contents) (n : ℕ) (content : Option (List ℕ)) (m : Mode) (at : ℕ) → m ≡ writing
      → IsSyncedIn told m path content at → (b : List ℕ) → b ≡ bytes_in (file content m at)
      → IsPartOf false (seen_file told path (file content m at)) (seen_file told path (file content m at)).content
      (get (appended told path (take n b)) path)
  part_put told n content closed at e s b is = cc
  part_put told n content (reading ended) at e s b is = cc
  part_put told n content writing at e s b is =
      let w = bytes_in (file content writing at) in
      let front : take (length s.0 + n) (bytes_at told path ++ w) ≡ s.0 ++ take n w =
      ap (λ (c : Option (List ℕ)). take (length s.0 + n) (unwrap_or c [] ++ w)) s.1 ∙ take-append-add s.0 w n in
      inr (inl (
        refl,
        (
          length s.0 + n,
          appended_gets told path (take n b) s.0 s.1
              ∙ ap (λ (x : List ℕ). Some (s.0 ++ take n x)) is ∙ ap (λ (x : List ℕ). Some x) (sym front),
        ),
      ))

  pub put_touches : PutsUnderPart old new ids place (bytes_in f) → TouchesOne old new path f
  put_touches puts = record {
    known = λ told e. record {
      now = appended told path (take puts.front.0 (bytes_in f));
      is = puts.front.1
          ∙ grown_by old.told puts.id told path f.place (take puts.front.0 (bytes_in f)) e
          (named puts.id true puts.is mode_);
      others = appended_agrees told path (take puts.front.0 (bytes_in f));
      it = λ s. part_put told puts.front.0 f.content f.mode f.place mode_ s (bytes_in f) refl;
    };
  }

  short_put : (told : Contents) (n : ℕ) (content : Option (List ℕ)) (m : Mode) (at : ℕ) → m ≡ writing
      → IsSyncedIn told m path content at → (b : List ℕ) → b ≡ bytes_in (file content m at) → n < length b
      → IsShort (seen_file told path (file content m at)) (get (appended told path (take n b)) path)
  short_put told n content closed at e s b is less = cc
  short_put told n content (reading ended) at e s b is less = cc
  short_put told n content writing at e s b is less =
      let w = bytes_in (file content writing at) in
      let front : take (length s.0 + n) (bytes_at told path ++ w) ≡ s.0 ++ take n w =
      ap (λ (c : Option (List ℕ)). take (length s.0 + n) (unwrap_or c [] ++ w)) s.1 ∙ take-append-add s.0 w n in
      let size : length (bytes_at told path ++ w) ≡ length s.0 + length w =
      ap (λ (c : Option (List ℕ)). length (unwrap_or c [] ++ w)) s.1 ∙ length-append s.0 w in
      let fewer : n < length w = subst (λ (x : List ℕ). n < length x) is less in (
        refl,
        (
          length s.0 + n,
          omega (arith, size, fewer),
          appended_gets told path (take n b) s.0 s.1
              ∙ ap (λ (x : List ℕ). Some (s.0 ++ take n x)) is ∙ ap (λ (x : List ℕ). Some x) (sym front),
        ),
      )

  pub put_loses : PutsShort old new ids place (bytes_in f) → LosesOne old new path f
  put_loses puts = record {
    known = λ told e. record {
      now = appended told path (take puts.front.0 (bytes_in f));
      is = puts.front.2
          ∙ grown_by old.told puts.id told path f.place (take puts.front.0 (bytes_in f)) e
          (named puts.id true puts.is mode_);
      it = λ s. short_put told puts.front.0 f.content f.mode f.place mode_ s (bytes_in f) refl puts.front.1;
    };
  }

pub writes_lose : (old new : FilesState) (ids : Ids) (place : ℕ) (f : File) → f.mode ≡ writing
    → (bytes : List ℕ) → bytes ≡ bytes_in f → (result : Result (Unit {0}) RunEnd)
    → IfErr result (λ _. PutsShort old new ids place bytes)
    → IfErr result (λ _. (path : List ℕ) → IsNamed old ids place path f → LosesOne old new path f)
writes_lose old new ids place f mode_ bytes is (Ok u) puts = tt
writes_lose old new ids place f mode_ bytes is (Err e) puts = λ path named.
    put_loses old new ids place path f named mode_ (subst (λ (b : List ℕ). PutsShort old new ids place b) is puts)

pub writes_readies : (old new : FilesState) (ids : Ids) (place : ℕ) (f : File) → f.mode ≡ writing
    → (bytes : List ℕ) → bytes ≡ bytes_in f → (result : Result (Unit {0}) RunEnd)
    → MatchResult result (λ _. PutsUnder old new ids place bytes) (λ e. IsRefusal old new e)
    → MatchResult result
    (λ _. (path : List ℕ) → IsNamed old ids place path f → Readies old new path (λ told now. IsOut told now path f))
    (λ e. IsRefusal old new e)
writes_readies old new ids place f mode_ bytes is (Ok u) puts = λ path named.
    put_readies old new ids place path f named mode_ (subst (λ (b : List ℕ). PutsUnder old new ids place b) is puts)
writes_readies old new ids place f mode_ bytes is (Err e) refusal = refusal

-- ---- nothing waits

out_in : (told now : Contents) (path : List ℕ) (content : Option (List ℕ)) (m : Mode) (place : ℕ)
    → IsOutIn told now path m (file content m place) → IsSyncedIn told m path content place
    → (seen_file now path (emptied_in m (file content m place)) ≡ seen_file told path (file content m place))
    × IsSynced now path (emptied_in m (file content m place))
out_in told now path content closed place out s = (ap (λ (c : Option (List ℕ)). file c closed place) out, tt)
out_in told now path content (reading ended) place out s =
    (ap (λ (c : Option (List ℕ)). file c (reading ended) place) out, (s.0, out ∙ s.1, s.2))
out_in told now path content writing place out s =
    let b = bytes_in (file content writing place) in
    let e = out s.0 s.1 in (
      ap (λ (c : Option (List ℕ)). file (Some (unwrap_or c [] ++ [])) writing place) e
          ∙ ap (λ (x : List ℕ). file (Some x) writing place) (append-nil (s.0 ++ b))
          ∙ sym (ap (λ (c : Option (List ℕ)). file (Some (unwrap_or c [] ++ b)) writing place) s.1),
      (s.0 ++ b, e),
    )

-- the run sees what it saw
pub out_seen : (told now : Contents) (path : List ℕ) (f : File) → IsOut told now path f → IsSynced told path f
    → (seen_file now path (emptied_file f) ≡ seen_file told path f) × IsSynced now path (emptied_file f)
out_seen told now path f out s = out_in told now path f.content f.mode f.place out s

-- ---- a file that isn't written

idle_in : (told : Contents) (path : List ℕ) (m : Mode) (f : File) → (m ≡ writing → ⊥) → IsOutIn told told path m f
idle_in told path closed f idle = refl
idle_in told path (reading ended) f idle = refl
idle_in told path writing f idle = absurd (idle refl)

pub idle_readies : (a : FilesState) (path : List ℕ) (f : File) → (f.mode ≡ writing → ⊥)
    → Readies a a path (λ told now. IsOut told now path f)
idle_readies a path f idle = record {
  well = record { reading = refl; writing = refl };
  known = λ told e. record {
    now = told;
    is = e;
    others = λ name apart. refl;
    it = idle_in told path f.mode f idle;
  };
}

apart_from_writing : (m : FileMode) (n : Mode) → plain_mode m ≡ n
    → (m ≡ mode.Closed) ⊎ ((b : Bool) × (m ≡ mode.Reading b)) → n ≡ writing → ⊥
apart_from_writing m n seen_ (inl e) w = let f : closed ≡ writing = sym (ap plain_mode e) ∙ seen_ ∙ w in cc
apart_from_writing m n seen_ (inr e) w = let f : reading e.0 ≡ writing = sym (ap plain_mode e.1) ∙ seen_ ∙ w in cc

pub other_readies : (a : FilesState) (path : List ℕ) (f : File) (m : FileMode) → plain_mode m ≡ f.mode
    → (m ≡ mode.Closed) ⊎ ((b : Bool) × (m ≡ mode.Reading b)) → Readies a a path (λ told now. IsOut told now path f)
other_readies a path f m seen_ is = idle_readies a path f (apart_from_writing m f.mode seen_ is)
