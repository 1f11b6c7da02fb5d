-- Where a file is put and closed before a CLOSE.
use Rattle.std.proofs.Common.{◌≡◌, ℕ, Bool, List, Option, refl, sym, subst, ◌∙◌}
use Rattle.std.specs.Prelude.{IsSome, IfSome}
use Rattle.batch_io.specs.FilesState.{Contents, FilesState, Handle, Purpose, KeepsIds, known_bytes}
use Rattle.cob_runs.specs.Files.{File}
use Rattle.cob_runs.specs.State.{World}
use Rattle.cob_interp.specs.declared.setting.Setting.{Setting}
use Rattle.cob_interp.specs.Readying.{AreWell, Keeps, GoesOut, ClosesFor}
use Rattle.cob_interp.specs.Touching.{IsTouched, Touches}
use Rattle.cob_interp.specs.Told.{IsOut}
use Rattle.cob_interp.specs.Tracking.{Ids, AreOpen, StandAt, ArePlaced}

module _ (paths : List (List ℕ)) (a b : FilesState) (fs : List File) where
  pub stand_ids : (ids : Ids) → KeepsIds a b → AreOpen a ids → StandAt paths a ids fs → StandAt paths b ids fs
  stand_ids ids keeps live stand place id writes path f is at has reads =
      subst (λ (o : Option Handle). IfSome o (λ handle. handle ≡ record { name = path; place = f.place }))
      (sym (keeps.handle id (subst (λ (o : Option Purpose). IsSome o) (sym (live.purpose place id writes is)) refl)))
      (stand place id writes path f is at has reads)

  pub placed_ids : (ids : Ids) → KeepsIds a b → AreOpen a ids → ArePlaced paths a ids fs → ArePlaced paths b ids fs
  placed_ids ids keeps live placed = record {
    count = placed.count;
    stand = stand_ids ids keeps live placed.stand;
    purposes = placed.purposes;
  }

  pub stand_closed : (before after : Ids) (place : ℕ) → ClosesFor a b before after place → StandAt paths a before fs
      → StandAt paths b after fs
  stand_closed before after place closes stand q id writes path f is at has reads =
      let c = closes.ids q id writes is in
      subst (λ (o : Option Handle). IfSome o (λ handle. handle ≡ record { name = path; place = f.place })) (sym c.1)
      (stand q id writes path f c.0 at has reads)

pub out_closed : (s : Setting) (w : World) (place : ℕ) (old mid new : FilesState) → GoesOut s w place old mid
    → AreWell mid new → known_bytes new ≡ known_bytes mid → GoesOut s w place old new
out_closed s w place old mid new ready well same = record {
  path = ready.path;
  file = ready.file;
  is = ready.is;
  has = ready.has;
  ready = record {
    well = record {
      reading = well.reading ∙ ready.ready.well.reading;
      writing = well.writing ∙ ready.ready.well.writing;
    };
    known = λ told e.
        subst (λ (c : Option Contents). Keeps told c ready.path (λ now. IsOut told now ready.path ready.file))
        (sym same) (ready.ready.known told e);
  };
}

pub touches_known : (paths : List (List ℕ)) (makes : ℕ → Bool) (w : World) (old mid new : FilesState)
    → Touches paths makes w old mid → known_bytes new ≡ known_bytes mid → Touches paths makes w old new
touches_known paths makes w old mid new touches same = record {
  known = λ told e.
      subst (λ (c : Option Contents). IsTouched paths makes w told c) (sym same) (touches.known told e);
}
