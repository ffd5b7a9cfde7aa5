use Rattle.std.proofs.Common.{◌≡◌, ℕ, List, ◌++◌, codes, decimal, ◌∙◌, ap, sym, append_assoc}
use Rattle.std.proofs.lemmas.Result.{IfOk-weaker}
use Rattle.wsyntax.specs.Texts.Words.{newline}
use Rattle.refusal.proofs.lines.body_line.Goals as goal

-- a line may be read as one text of three parts
line_parts : (refused func fault end : List ℕ) → refused ++ (func ++ (fault ++ end)) ≡ (refused ++ (func ++ fault)) ++ end
line_parts refused func fault end =
    ap (λ l. refused ++ l) (sym (append_assoc func fault end)) ∙ sym (append_assoc refused (func ++ fault) end)

pub returns-in-Malformed : goal.returns-in-Malformed
returns-in-Malformed c =
    rw c.in-Malformed.is (IfOk-weaker c.format.result _ _ (λ line h. h ∙ line_parts (codes "refused body ") (decimal c.args.func) (codes " malformed") newline) c.format.ensures.ok)

pub returns-in-TooManyLocals : goal.returns-in-TooManyLocals
returns-in-TooManyLocals c =
    rw c.in-TooManyLocals.is (IfOk-weaker c.format-in-TooManyLocals.result _ _ (λ line h. h ∙ line_parts (codes "refused body ") (decimal c.args.func) (codes " too-many-locals") newline) c.format-in-TooManyLocals.ensures.ok)

pub returns-in-IllTyped : goal.returns-in-IllTyped
returns-in-IllTyped c =
    let at = decimal c.in-IllTyped.at in
    let inner = ap (λ l. codes "refused body " ++ (decimal c.args.func ++ l)) (sym (append_assoc (codes " ill-typed at ") at newline)) in
    rw c.in-IllTyped.is (IfOk-weaker c.format-in-IllTyped.result _ _ (λ line h. h ∙ inner ∙ line_parts (codes "refused body ") (decimal c.args.func) (codes " ill-typed at " ++ at) newline) c.format-in-IllTyped.ensures.ok)
