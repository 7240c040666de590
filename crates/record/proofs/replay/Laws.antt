-- The rules' state of a replay state: what replacing a part makes of it, and what each part is in it. Assumes nothing.
use Rattle.std.proofs.Common.{◌≡◌, ℕ, zero, suc, ◌<◌, ◌≤◌, List, [], ◌∷◌, length, get_or, set, pos, refl, ap, ◌∙◌, le_of_suc-le-suc, not-suc-le-zero}
use Rattle.std.proofs.lemmas.List.{get_or-set_same}
use Rattle.rules.specs.Run as R
use Rattle.recorded.specs.Follow as F
use Rattle.rules.specs.Run.{standing}
use Rattle.interval.specs.declared.Val.{Val}
use Rattle.field.specs.declared.ticks.Time.{Time}
use Rattle.state.specs.Shape.{Sizes, owners_of}
use Rattle.state.proofs.Shape.{view-set, view-get}
use Rattle.record.specs.Known.{number_of, values_of}
use Rattle.record.specs.Replay.{zero_val, zero_thread, thread_at, thread_of, threads_of, state_of, replay_of, after, stood}
use Rattle.record.specs.declared.replay.RunThread.{RunThread}
use Rattle.record.specs.declared.replay.Replay.{Replay}

pub values-set : (n : ℕ) (l : List Val) (i : ℕ) (v : Val) → values_of n (set l i v) ≡ set (values_of n l) i v.0
unfolding values_of
values-set n l i v = view-set number_of n l i v

pub values-get : (n : ℕ) (l : List Val) (i : ℕ) → i < n → get_or (values_of n l) i (pos 0) ≡ (get_or l i zero_val).0
unfolding values_of
values-get n l i h = view-get number_of n l i zero_val h

pub threads-set : (ns : List ℕ) (xs : List RunThread) (t : ℕ) (th : RunThread) → threads_of ns (set xs t th) ≡ set (threads_of ns xs) t (thread_of (get_or ns t 0) th)
unfolding threads_of
threads-set [] xs t th = refl
threads-set (n ∷ ns) [] t th = refl
threads-set (n ∷ ns) (x ∷ xs) zero th = refl
threads-set (n ∷ ns) (x ∷ xs) (suc t) th = ap (λ (r : List R.RunThread). thread_of n x ∷ r) (threads-set ns xs t th)

pub threads-get : (ns : List ℕ) (xs : List RunThread) (t : ℕ) (d : R.RunThread) → t < length ns → length ns ≤ length xs
    → get_or (threads_of ns xs) t d ≡ thread_of (get_or ns t 0) (get_or xs t zero_thread)
unfolding threads_of
threads-get [] xs t d h k = absurd (not-suc-le-zero h)
threads-get (n ∷ ns) [] t d h k = absurd (not-suc-le-zero k)
threads-get (n ∷ ns) (x ∷ xs) zero d h k = refl
threads-get (n ∷ ns) (x ∷ xs) (suc t) d h k = threads-get ns xs t d (le_of_suc-le-suc h) (le_of_suc-le-suc k)

-- a thread replaced, with all that stands beside the threads
pub stands-there : (z : Sizes) (x : Replay) (t at : ℕ) (e : Time) (regs vars : List Val) (owners : List ℕ)
    → replay_of z (record { threads = set x.threads t (record { at = at; clock = e; regs = regs }); vars = vars; owners = owners; tick = e })
    ≡ stood z x t at e.0 regs vars owners
unfolding state_of standing
stands-there z x t at e regs vars owners =
    let th : RunThread = record { at = at; clock = e; regs = regs } in
    λ i. record {
      state = record { threads = threads-set z.regs x.threads t th i; vars = values_of z.vars vars; owners = owners_of z.locks owners };
      tick = e.0;
    }

-- ---- a thread written before it moves on

abbrev pub with_thread : Replay → ℕ → RunThread → Replay
with_thread x t th = record x { threads = set x.threads t th }

set-twice : {A : Type 0} (l : List A) (t : ℕ) (a b : A) → set (set l t a) t b ≡ set l t b
set-twice [] t a b = refl
set-twice (x ∷ l) zero a b = refl
set-twice (x ∷ l) (suc t) a b = ap (λ (r : List _). x ∷ r) (set-twice l t a b)

-- it stands where it comes to, whatever it was
pub stood-written : (z : Sizes) (x : Replay) (t : ℕ) (th : RunThread) (at e : ℕ) (regs vars : List Val) (owners : List ℕ)
    → stood z (with_thread x t th) t at e regs vars owners ≡ stood z x t at e regs vars owners
unfolding state_of standing
stood-written z x t th at e regs vars owners =
    let r : R.RunThread = record { at = at; clock = e; regs = values_of (get_or z.regs t 0) regs } in
    ap (λ (ts : List R.RunThread). after e (record { threads = ts; vars = values_of z.vars vars; owners = owners_of z.locks owners }))
    (ap (λ (ts : List R.RunThread). set ts t r) (threads-set z.regs x.threads t th) ∙ set-twice (threads_of z.regs x.threads) t _ r)

-- and what stands beside the threads is replaced too
pub stood-beside : (z : Sizes) (x : Replay) (vs : List Val) (os : List ℕ) (t at e : ℕ) (regs vars : List Val) (owners : List ℕ)
    → stood z (record x { vars = vs; owners = os }) t at e regs vars owners ≡ stood z x t at e regs vars owners
unfolding state_of standing
stood-beside z x vs os t at e regs vars owners = refl

-- it goes on from where it was, with the registers that were written
pub moved-written : (z : Sizes) (x : Replay) (t : ℕ) (th : RunThread) (e : ℕ) → t < length x.threads → {y : F.Replay}
    → y ≡ stood z (with_thread x t th) t (suc (thread_at (with_thread x t th) t).at) e (thread_at (with_thread x t th) t).regs x.vars x.owners
    → y ≡ stood z x t (suc th.at) e th.regs x.vars x.owners
moved-written z x t th e h q =
    q ∙ ap (λ (w : RunThread). stood z (with_thread x t th) t (suc w.at) e w.regs x.vars x.owners) (get_or-set_same x.threads t th zero_thread h)
    ∙ stood-written z x t th (suc th.at) e th.regs x.vars x.owners
