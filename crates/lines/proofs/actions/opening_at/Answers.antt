-- What the search leaves of `lines::actions::opening_at`.
use mathlib.Core.Path.{◌≡◌, sym, ◌∙◌}
use native.Mathlib.Omega.{arith}
use lib.ListN.{get_or}
use Prim.Native.Nat.{◌+◌}
use Rattle.scan.proofs.WordLaws.{here}
use Rattle.lines.proofs.WordChoice.{decides-if, decides-unlock, decides-load, decides-lock, decides-store, decides-skip, decides-none, next-byte}
use Rattle.lines.proofs.actions.opening_at.Goals as goal

pub returns-in-105 : goal.returns-in-105
returns-in-105 c = decides-if c.args.s.now c.args.q _ _ (here c.args.s.now c.args.q c.requires.0) c.requires.1 c.in-105.is

pub returns-in-117 : goal.returns-in-117
returns-in-117 c = decides-unlock c.args.s.now c.args.q _ _ (here c.args.s.now c.args.q c.requires.0) c.requires.1 c.in-117.is

pub returns-in-108 : goal.returns-in-108
returns-in-108 c =
    decides-load c.args.s.now c.args.q _ _ (here c.args.s.now c.args.q c.requires.0) c.requires.1 c.in-108.is
    (next-byte c.args.s.now c.args.q 1 ∙ sym c.byte_at.ensures ∙ c.if-byte_at-eq97.true)

pub returns-in-108-2 : goal.returns-in-108-2
returns-in-108-2 c =
    decides-lock c.args.s.now c.args.q _ _ (here c.args.s.now c.args.q c.requires.0) c.requires.1 c.in-108.is
    (λ e. c.if-byte_at-eq97.false (c.byte_at.ensures ∙ sym (next-byte c.args.s.now c.args.q 1) ∙ e))

pub returns-in-115 : goal.returns-in-115
returns-in-115 c =
    let e : get_or c.args.s.now (c.args.q + 1) 0 ≡ 116 = omega arith in
    decides-store c.args.s.now c.args.q _ _ (here c.args.s.now c.args.q c.requires.0) c.requires.1 c.in-115.is
    (next-byte c.args.s.now c.args.q 0 ∙ e)

pub returns-in-115-2 : goal.returns-in-115-2
returns-in-115-2 c =
    decides-skip c.args.s.now c.args.q _ _ (here c.args.s.now c.args.q c.requires.0) c.requires.1 c.in-115.is
    (λ e. let h : get_or c.args.s.now (c.args.q + 1) 0 ≡ 116 = sym (next-byte c.args.s.now c.args.q 0)
    ∙ e in c.if-byte_at-eq116.false (omega arith))

pub returns-in_default : goal.returns-in_default
returns-in_default c =
    decides-none c.args.s.now c.args.q _ _ (here c.args.s.now c.args.q c.requires.0) c.requires.1 (λ e. omega arith) (λ e. omega arith)
    (λ e. omega arith)
    (λ e. omega arith)
