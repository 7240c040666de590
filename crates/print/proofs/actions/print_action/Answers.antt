-- What the search leaves of `print::actions::print_action`.
use Rattle.writing.proofs.Written.{same_text}
use Rattle.print.proofs.StatementLaws.{halt-text, skip-text, store-text, load-text, unlock-text, lock-text}
use mathlib.Core.Path.{subst, ◌∙◌}
use Rattle.field.specs.declared.decoding.Action.{Action}
use Rattle.print.specs.Texts.{TextOf}
use Rattle.print.proofs.actions.print_action.Goals as goal

pub returns-in-Halt : goal.returns-in-Halt
returns-in-Halt c =
    λ t h. same_text _ t _ _ _ _ (halt-text ∙ subst (λ (a : Action). TextOf c.args.s.now a t) c.in-Halt.is h) c.put_bytes.ensures

pub returns-in-Skip : goal.returns-in-Skip
returns-in-Skip c =
    λ t h. same_text _ t _ _ _ _ (skip-text ∙ subst (λ (a : Action). TextOf c.args.s.now a t) c.in-Skip.is h) c.put_bytes-in-Skip.ensures

pub returns-in-Store : goal.returns-in-Store
returns-in-Store c =
    λ t h. same_text _ t _ _ _ _ (store-text _ _ ∙ subst (λ (a : Action). TextOf c.args.s.now a t) c.in-Store.is h) c.put_both.ensures

pub returns-in-Load : goal.returns-in-Load
returns-in-Load c =
    λ t h. same_text _ t _ _ _ _ (load-text _ _ ∙ subst (λ (a : Action). TextOf c.args.s.now a t) c.in-Load.is h) c.put_both-in-Load.ensures

pub returns-in-Unlock : goal.returns-in-Unlock
returns-in-Unlock c =
    λ t h. same_text _ t _ _ _ _ (unlock-text _ ∙ subst (λ (a : Action). TextOf c.args.s.now a t) c.in-Unlock.is h) c.put_named.ensures

pub returns-in-Lock : goal.returns-in-Lock
returns-in-Lock c =
    λ t h. same_text _ t _ _ _ _ (lock-text _ ∙ subst (λ (a : Action). TextOf c.args.s.now a t) c.in-Lock.is h) c.put_named-in-Lock.ensures
