use Rattle.std.proofs.Common.{◌≡◌, ℕ, List, length, refl, ap, subst, arith}
use Rattle.std.specs.Prelude.{Contains}
use Rattle.accepted_module.specs.Exports.{name_at}
use Rattle.wsyntax.specs.declared.module.Export.{Export}
use Rattle.accepted_module.proofs.ExportPositions.{position_within, none_exported, is_exported}
use Rattle.accepted_module.proofs.accepted.Accepted.export.Goals as goal

pub index-export-requires : goal.index-export-requires
index-export-requires c =
    let among = subst (λ (xs : List ℕ). Contains xs c.in_ok-position.position) c.deref-2.ensures.value c.in_ok-position.ensures.0 in
    let within = position_within (length c.args.self.now.module.exports.items) c.args.self.now.by_name.items c.in_ok-position.position c.args.self.now.each among in
    omega (arith, c.deref.ensures.len, ap length c.deref.ensures.value)

pub returns-clause-some : goal.returns-clause-some
returns-clause-some c =
    let among = subst (λ (xs : List ℕ). Contains xs c.in_ok-position.position) c.deref-2.ensures.value c.in_ok-position.ensures.0 in
    let within = position_within (length c.args.self.now.module.exports.items) c.args.self.now.by_name.items c.in_ok-position.position c.args.self.now.each among in
    let named = subst (λ (es : List Export). name_at es c.in_ok-position.position ≡ c.args.name.now) c.deref.ensures.value c.in_ok-position.ensures.1 in
    is_exported c.args.self.now.module.exports.items c.args.name.now c.in_ok-position.position c.index-export.result.now c.args.self.now.distinct within c.index-export.ensures named

pub returns-clause-none : goal.returns-clause-none
returns-clause-none c = (λ e. absurd cc, λ missing. absurd (missing _ ((returns-clause-some c c.index-export.result.now.kind c.index-export.result.now.index).0 refl) refl))

pub returns-in_err-position-clause-none : goal.returns-in_err-position-clause-none
returns-in_err-position-clause-none c = (
  λ none. none_exported c.args.self.now.module.exports.items c.args.self.now.by_name.items c.args.name.now c.args.self.now.each
      (rw (c.deref.ensures.value, c.deref-2.ensures.value) at c.in_err-position.ensures),
  λ missing. rw c.from_residual.ensures refl,
)

pub returns-in_err-position-clause-some : goal.returns-in_err-position-clause-some
returns-in_err-position-clause-some c kind index = (
  λ e. absurd cc,
  λ there. absurd ((returns-in_err-position-clause-none c).0 (rw c.from_residual.ensures refl) _ there refl),
)
