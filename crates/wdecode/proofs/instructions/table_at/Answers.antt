use Rattle.std.specs.Prelude.{slice_range}
use Rattle.std.proofs.Common.{◌+◌, length, ◌≡◌, ◌++◌, ◌∷◌, [], List, ℕ, Some, ap, sym, ◌∙◌, append_assoc, arith}
use Rattle.std.proofs.lemmas.Bool.{lt-ltb}
use Rattle.std.proofs.lemmas.List.{length-append}
use Rattle.wsyntax.specs.Instructions.{Token, Do, BrTable}
use Rattle.wdecode.proofs.Targets.{labels_seen, default_seen, labels_count}
use Rattle.wdecode.proofs.instructions.table_at.Goals as goal

pub returns-clause-ok : goal.returns-clause-ok
returns-clause-ok c =
    let labels = c.in_ok-rest.ensures.ok in
    let d = c.in_ok-default.default in
    let old = c.args.targets.now.items in
    let rest = c.in_ok-default.rest.now in
    let grown : c.push.new.self.items ≡ old ++ (labels.0 ++ d ∷ []) = c.in_ok-push.ensures.items ∙ ap (λ (x : List ℕ). x ++ d ∷ []) labels.1 ∙ append_assoc old labels.0 (d ∷ []) in (
      labels.0 ++ d ∷ [],
      grown,
      λ more.
          let first : c.len-first.result ≡ length old = omega (arith, c.len-first.ensures, c.args.targets.now.ok) in
          let many = labels_count c.in_ok-count.count c.in_ok-count.rest.now labels.0 c.in_ok-rest.rest.now labels.2 in
          let part = labels_seen old labels.0 d more c.push.new.self.items c.len-first.result c.in_ok-count.count first many grown in
          let last = default_seen old labels.0 d more c.push.new.self.items c.len-first.result c.in_ok-count.count first many grown in
          rw (c.in_ok-count.ensures, labels.2, c.in_ok-default.ensures)
          (ap (λ (x : List ℕ). let y : Token × List ℕ = (Do (BrTable x d), rest) in Some y) (sym part)
          ∙ ap (λ (x : ℕ). let y : Token × List ℕ = (Do (BrTable (slice_range (c.push.new.self.items ++ more) c.len-first.result (c.len-first.result + c.in_ok-count.count)) x), rest) in Some y) (sym last)),
    )

pub returns-clause-within : goal.returns-clause-within
returns-clause-within c =
    let labels = c.in_ok-rest.ensures.ok in
    let d = c.in_ok-default.default in
    let old = c.args.targets.now.items in
    let grown : c.push.new.self.items ≡ old ++ (labels.0 ++ d ∷ []) = c.in_ok-push.ensures.items ∙ ap (λ (x : List ℕ). x ++ d ∷ []) labels.1 ∙ append_assoc old labels.0 (d ∷ []) in
    let first : c.len-first.result ≡ length old = omega (arith, c.len-first.ensures, c.args.targets.now.ok) in
    let many = labels_count c.in_ok-count.count c.in_ok-count.rest.now labels.0 c.in_ok-rest.rest.now labels.2 in
    let whole : length c.push.new.self.items ≡ length old + length (labels.0 ++ d ∷ []) = ap length grown ∙ length-append old (labels.0 ++ d ∷ []) in
    lt-ltb (c.len-first.result + c.in_ok-count.count) (length c.push.new.self.items) (omega (arith, length-append labels.0 (d ∷ [])))

pub returns-clause-follows : goal.returns-clause-follows
returns-clause-follows c =
    let labels = c.in_ok-rest.ensures.ok in
    let d = c.in_ok-default.default in
    let old = c.args.targets.now.items in
    let grown : c.push.new.self.items ≡ old ++ (labels.0 ++ d ∷ [])
    = c.in_ok-push.ensures.items ∙ ap (λ (x : List ℕ). x ++ d ∷ []) labels.1 ∙ append_assoc old labels.0 (d ∷ []) in
    let first : c.len-first.result ≡ length old = omega (arith, c.len-first.ensures, c.args.targets.now.ok) in
    let many = labels_count c.in_ok-count.count c.in_ok-count.rest.now labels.0 c.in_ok-rest.rest.now labels.2 in
    let whole : length c.push.new.self.items ≡ length old + length (labels.0 ++ d ∷ [])
    = ap length grown ∙ length-append old (labels.0 ++ d ∷ []) in
    (first, omega (arith, length-append labels.0 (d ∷ [])))
