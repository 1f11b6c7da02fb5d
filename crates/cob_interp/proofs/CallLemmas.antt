-- Statements by how they call files.
use Rattle.std.proofs.Common.{◌≡◌, ℕ, List, sym, ap}
use Rattle.std.specs.Borrow.{Bor}
use Rattle.cob_program.specs.declared.act.Opening.{Opening}
use Rattle.cob_program.specs.Act.{Act, move, arith, if_, evaluate, perform, go, nothing, stop, open_files, close_files, read, write, show}
use Rattle.cob_interp.specs.declared.parts.Call.TheVariants as call
use Rattle.cob_interp.specs.Setting.{IsCall}
use Rattle.cob_plan.specs.declared.node.Op.{Op}
use Rattle.cob_interp.specs.Doing.{IsPlain}

module _ (os : Bor (List Opening)) where
  pub is_open : (a : Act) → IsCall a (call.Open os) → a ≡ open_files os.now
  is_open (open_files xs) is = ap open_files (sym is)
  is_open (close_files xs) is = absurd is
  is_open (read f into end fine) is = absurd is
  is_open (move x places) is = absurd is
  is_open (arith sum targets remainder size fine) is = absurd is
  is_open (if_ t held other) is = absurd is
  is_open (evaluate ws other) is = absurd is
  is_open (perform body turns) is = absurd is
  is_open (go para) is = absurd is
  is_open nothing is = absurd is
  is_open stop is = absurd is
  is_open (write r from) is = absurd is
  is_open (show xs) is = absurd is

module _ (fs : Bor (List ℕ)) where
  pub is_close : (a : Act) → IsCall a (call.Close fs) → a ≡ close_files fs.now
  is_close (close_files xs) is = ap close_files (sym is)
  is_close (open_files os) is = absurd is
  is_close (read f into end fine) is = absurd is
  is_close (move x places) is = absurd is
  is_close (arith sum targets remainder size fine) is = absurd is
  is_close (if_ t held other) is = absurd is
  is_close (evaluate ws other) is = absurd is
  is_close (perform body turns) is = absurd is
  is_close (go para) is = absurd is
  is_close nothing is = absurd is
  is_close stop is = absurd is
  is_close (write r from) is = absurd is
  is_close (show xs) is = absurd is

pub plain_other : (o : Op) (a : Act) → IsCall a call.Other → IsPlain o a
plain_other o (open_files os) is = absurd is
plain_other o (close_files xs) is = absurd is
plain_other o (read f into end fine) is = absurd is
plain_other o (move x places) is = tt
plain_other o (arith sum targets remainder size fine) is = tt
plain_other o (if_ t held other) is = tt
plain_other o (evaluate ws other) is = tt
plain_other o (perform body turns) is = tt
plain_other o (go para) is = tt
plain_other o nothing is = tt
plain_other o stop is = tt
plain_other o (write r from) is = tt
plain_other o (show xs) is = tt

pub ruleset calls = (is_close, plain_other)
