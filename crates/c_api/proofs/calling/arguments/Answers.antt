use Rattle.std.proofs.Common.{◌≡◌, ℕ, zero, suc, ◌<◌, Bool, if◌then◌else◌, length, List, [], ◌∷◌, ◌++◌, get_or, map, take, drop, ap, sym, subst, ◌∙◌, arith}
use Rattle.std.proofs.lemmas.List.{take_more, map_push}
use Rattle.wsyntax.specs.Execution.Values.{IsWord, AreWords}
use Rattle.wsyntax.specs.declared.value.Value.{Value}
use Rattle.c_api.specs.declared.value.GateValue.{GateValue}
use Rattle.c_api.specs.Values.{value_fields, IsNoValue}
use Rattle.c_api.proofs.calling.arguments.Goals as goal

-- where one of them is of no value, they are of no arguments
no_arguments : (i : ℕ) (xs : List GateValue) (d : GateValue) → i < length xs → IsNoValue (get_or xs i d)
    → (args : List Value) → AreWords args → map value_fields args ≡ xs → ⊥
no_arguments i [] d h refused args words same = absurd (omega (arith, h))
no_arguments i (x ∷ xs) d h refused [] words same = let none = ap length same in absurd (omega (arith, none))
no_arguments zero (x ∷ xs) d h refused (v ∷ vs) words same = refused v words.0 (ap (λ (ys : List GateValue). get_or ys 0 d) same)
no_arguments (suc i) (x ∷ xs) d h refused (v ∷ vs) words same = no_arguments i xs d (omega (arith, h)) refused vs words.1 (ap (drop 1) same)

-- a further word
words_more : (args : List Value) (v : Value) → AreWords args → IsWord v → AreWords (args ++ v ∷ [])
words_more [] v h w = (w, tt)
words_more (u ∷ args) v h w = (h.0, words_more args v h.1 w)

pub loop-number-preserved : goal.loop-number-preserved
loop-number-preserved c =
    let i = c.loop-number.number-index in let vs = c.loop-number.values.items in let v = c.in-Some.value in
    let fit : i < length c.args.numbers.now = omega arith in
    let grown : c.push.new.self.items ≡ vs ++ v ∷ [] = subst (λ (b : Bool). c.push.new.self.items ≡ (if b then vs ++ v ∷ [] else vs)) c.if-is_err.ensures.negation c.push.ensures.items in
    let more = take_more c.args.numbers.now i (record { width = 0; bits = 0 }) fit in
    let numbers = ap (λ (xs : List GateValue). xs ++ value_fields v ∷ []) c.loop-number.invariant.0 ∙ ap (λ (x : GateValue). take i c.args.numbers.now ++ x ∷ []) c.in-Some.ensures.some ∙ sym more in (
      ap (map value_fields) grown ∙ map_push value_fields vs v ∙ numbers,
      subst AreWords (sym grown) (words_more vs v c.loop-number.invariant.1 c.in-Some.ensures.word),
    )

pub returns-in_default-value-clause-no_value : goal.returns-in_default-value-clause-no_value
returns-in_default-value-clause-no_value c =
    λ _. no_arguments c.loop-number.number-index c.args.numbers.now _ (omega arith) c.in_default-value.ensures.none
