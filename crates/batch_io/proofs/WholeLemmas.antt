-- How reading a file whole and showing a text whole end.
use Rattle.std.proofs.Common.{◌≡◌, ℕ, ◌+◌, ◌-◌, ◌<◌, ◌≤◌, List, ◌++◌, false, Ok, Err, refl, sym, ap, ◌∙◌, length, take, drop, length-append, length-take, length-drop, arith}
use Rattle.std.proofs.lemmas.List.{take_rest}
use Rattle.std.proofs.Math.Seq.{take-add}
use Rattle.std.specs.Prelude.{Option}
use Rattle.std.specs.Io.KnownBytes.{append_known}
use Rattle.batch_io.specs.declared.ends.ReadEnd.TheVariants.{Long, Memory}
use Rattle.batch_io.specs.Faults.{Counts}
use Rattle.batch_io.specs.FilesState.{FilesState, Gives}
use Rattle.batch_io.specs.FilesCalls.{Reads}
use Rattle.batch_io.specs.Wholes.{ReadsWhole}
use Rattle.batch_io.proofs.GivesLemmas.{Gives-more}
use Rattle.batch_io.proofs.KnownLemmas.{append_known-append}

-- a count that stayed
pub kept_count : (a b : ℕ) → b ≡ a → Counts false a b
kept_count a b e = record { later = omega arith; rose = λ h. absurd (cc); kept = λ _. e }

pub length_of_two : (xs ys : List ℕ) (n : ℕ) → n ≤ length ys → length (xs ++ take n ys) ≡ length xs + n
length_of_two xs ys n h = simp (length-append, length-take) (omega arith)

module _ (a b c : FilesState) (id limit : ℕ) (bytes piece : List ℕ) (count : ℕ)
    (before : Gives a b id bytes) (reading : b.reading ≡ a.reading) (writing : b.writing ≡ a.writing)
    (call : Reads b c id piece (Ok count)) (within : length bytes ≤ limit) where
  -- the read went past the limit
  pub reads_long : length piece ≤ limit + 1 - length bytes → limit - length bytes < count → ReadsWhole a c id limit (Err Long)
  reads_long room over =
      let fits : count ≤ length piece = call.count in
      let two = length_of_two bytes piece count fits in
      record {
        reading = kept_count _ _ (call.reading.kept refl ∙ reading);
        writing = call.writing ∙ writing;
        read = (
          bytes ++ take count piece,
          record {
            gives = Gives-more a b c id bytes (take count piece) before call.given;
            most = omega (arith, two);
            long = (λ _. omega (arith, two), λ _. refl);
            all = tt;
          },
        );
        ended = tt;
      }

  -- what was read could not be kept
  pub reads_unkept : count ≤ limit - length bytes → ReadsWhole a c id limit (Err Memory)
  reads_unkept under =
      let fits : count ≤ length piece = call.count in
      let two = length_of_two bytes piece count fits in
      record {
        reading = kept_count _ _ (call.reading.kept refl ∙ reading);
        writing = call.writing ∙ writing;
        read = (
          bytes ++ take count piece,
          record {
            gives = Gives-more a b c id bytes (take count piece) before call.given;
            most = omega (arith, two);
            long = (λ e. absurd (cc e), λ e. absurd (omega (arith, two)));
            all = tt;
          },
        );
        ended = tt;
      }

-- a piece of what is left to show
pub piece_fits : (bytes : List ℕ) (done count : ℕ) → done ≤ length bytes → count ≤ length (take (length bytes - done) (drop done bytes)) → done + count ≤ length bytes
piece_fits bytes done count within fits = omega (arith, simp (length-take, length-drop) at fits)

pub shown_more : (told : Option (List ℕ)) (bytes : List ℕ) (done count : ℕ)
    → append_known (append_known told (take done bytes)) (take count (take (length bytes - done) (drop done bytes))) ≡ append_known told (take (done + count) bytes)
shown_more told bytes done count =
    ap (λ rest. append_known (append_known told (take done bytes)) (take count rest)) (take_rest bytes done)
    ∙ append_known-append told (take done bytes) (take count (drop done bytes))
    ∙ ap (append_known told) (sym (take-add done count bytes))
