-- A sheet and its index: the sheet that is refused, and the start of the one that reads. Assumes nothing.
use Rattle.std.specs.Prelude.{Ok, Err}
use Rattle.std.proofs.Common.{◌≡◌, ℕ, ◌<◌, ◌≤◌, [], length, get_or, sym, refl, ap, ◌∙◌, subst, arith}
use lib.ListN.{get_or-map}
use Rattle.rules.specs.Constants.{most_threads}
use Rattle.rules.specs.Program.{Thread, Program, no_thread}
use Rattle.rules.specs.Format.{Bytes, got, read_sheet}
use Rattle.rules.specs.Search.{ThreadState, start}
use Rattle.rules.specs.Search as RS
use Rattle.rules.specs.Demands.{Unchanged}
use Rattle.refusal.specs.declared.Fault.{Fault}
use Rattle.refusal.specs.Shape.{rule_of}
use Rattle.expression.specs.Evaluation.{regs_of}
use Rattle.reader.specs.declared.Index.{Index}
use Rattle.reader.specs.Index.{index_of}
use Rattle.reader.specs.Facts.{program_in, thread_in}
use Rattle.reader.proofs.Facts.{accepted, rejected, program-facts, program-is, index-facts}
use Rattle.state.specs.declared.State.{State}
use Rattle.state.specs.Access.{thread_at}
use Rattle.state.specs.Shape.{sizes_of, state_of}
use Rattle.state.proofs.Shape.{sizes-threads, sizes-regs, state-thread}
use Rattle.recorded.specs.Follow as F
use Rattle.recorded.specs.Follow.{the_sheet, refused, follow_with, answer_of, follow_record}
use Rattle.recorded.specs.Claims.{EndsInLabel}
use Rattle.recorded.proofs.Claims.{follow-claims}
use Rattle.record.specs.Start.{StartsFrom}

-- ---- a sheet that is refused

pub sheet-refused : (s r : Bytes) (f : Fault) → index_of (read_sheet s) ≡ Err f → refused the_sheet (rule_of f.refusal) f.place ≡ F.follow s r
unfolding F.follow follow_with
sheet-refused s r f h = rw (rejected (read_sheet s) h)

-- ---- a sheet that reads, with its index and the starting state of its search

module _ (s : Bytes) (i : Index) (is : index_of (read_sheet s) ≡ Ok i) where
  pub followed-is : (r : Bytes) → answer_of (program_in s) (follow_record (program_in s) r) ≡ follow_with r (read_sheet s)
  unfolding follow_with program_in
  followed-is r = let a = accepted (read_sheet s) is in rw a.2

  module _ (first : State) (four : length first.threads ≡ most_threads) where
    module _ (g : Program) (e : ℕ) (reads : read_sheet s ≡ got g e) (starts : state_of (sizes_of g) first ≡ start g) where
      regs_are : (t : ℕ) → t < length g.threads → regs_of (length (thread_in g t).regs) (thread_at first t).regs ≡ (thread_in g t).regs
      unfolding start
      regs_are t b =
          let n = sizes-threads g in
          let few = (program-facts s g e reads).threads_few in
          let in-sizes : t < length (sizes_of g).regs = omega arith in
          let few-sizes : length (sizes_of g).regs ≤ most_threads = omega arith in
          ap (λ (m : ℕ). regs_of m (thread_at first t).regs) (sym (sizes-regs g t))
          ∙ ap (λ (x : ThreadState). x.regs) (sym (state-thread (sizes_of g) first t (record { at = 0; low = 0; high = 0; regs = [] }) in-sizes few-sizes four))
          ∙ ap (λ (x : RS.State). (get_or x.threads t (record { at = 0; low = 0; high = 0; regs = [] })).regs) starts
          ∙ ap (λ (x : ThreadState). x.regs) (get_or-map (λ (x : Thread). record { at = 0; low = 0; high = 0; regs = x.regs }) g.threads t no_thread)

      starts-in : StartsFrom g first
      unfolding state_of sizes_of start
      starts-in = record { vars = ap (λ (y : RS.State). y.vars) starts; regs = regs_are }

    pub starts_from : ((g : Program) (e : ℕ) → read_sheet s ≡ got g e → state_of (sizes_of g) first ≡ start g) → StartsFrom (program_in s) first
    starts_from h =
        let a = accepted (read_sheet s) is in
        subst (λ (g : Program). StartsFrom g first) (sym (program-is s a.0 a.1 a.2)) (starts-in a.0 a.1 a.2 (h a.0 a.1 a.2))

  pub variables-are : i.variables ≡ length (program_in s).vars
  variables-are =
      let a = accepted (read_sheet s) is in
      (index-facts a.0 a.1 is a.2).variables ∙ ap (λ (g : Program). length g.vars) (sym (program-is s a.0 a.1 a.2))

-- ---- what the follower promises of its answer

pub promised : (sheet r : Bytes) (a : F.Answer) → a ≡ F.follow sheet r → (a ≡ F.follow sheet r) × (EndsInLabel sheet a × (Unchanged sheet sheet × Unchanged r r))
promised sheet r a e = (e, (subst (EndsInLabel sheet) (sym e) (follow-claims.in_label sheet r), (refl, refl)))
