-- Values that are words of their types.
use Rattle.std.proofs.Common.{ℕ, ◌+◌, ◌<◌, List, [], ◌∷◌, ◌++◌, length, take, get_or, sym, subst}
use Rattle.std.proofs.lemmas.List.{take_more}
use Rattle.std.proofs.Props.{props}
use Rattle.wsyntax.specs.declared.value.Value.{Value}
use Rattle.wsyntax.specs.declared.value.Value.TheVariants.{I32 as V32, I64 as V64}
use Rattle.wsyntax.specs.Execution.Values.{IsWord, AreWords}

-- one more after words
more : (args : List Value) (v : Value) → AreWords args → IsWord v → AreWords (args ++ v ∷ [])
more [] v h w = (w, tt)
more (u ∷ args) v h w = (h.0, more args v h.1 w)

pub words_more : (values : List Value) (i : ℕ) (d : Value) → i < length values → AreWords (take i values) → IsWord (get_or values i d) → AreWords (take (i + 1) values)
words_more values i d within h w = subst AreWords (sym (take_more values i d within)) (more (take i values) (get_or values i d) h w)

-- it is a proposition
word_prop : (v : Value) → IsProp (IsWord v)
word_prop (V32 n) = hlevel props
word_prop (V64 n) = hlevel props

pub words_prop : (values : List Value) → IsProp (AreWords values)
words_prop [] = hlevel props
words_prop (v ∷ values) = hlevel (word_prop v, words_prop values)
