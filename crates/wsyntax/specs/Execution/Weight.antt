-- A number that every uncharged step makes smaller. So a typed call ends, whatever its fuel.
use Rattle.std.specs.Prelude.{◌≡◌, ℕ, ◌+◌, ◌<◌, List, []}
use Rattle.wsyntax.specs.Types.{FuncType}
use Rattle.wsyntax.specs.Instructions.{Op, BrIf, BrTable, LocalTee, Code, Stop, Plain, Block, Loop, If, IfElse}
use Rattle.wsyntax.specs.Execution.Values.{Value}
use Rattle.wsyntax.specs.Execution.Store.{Module, Store}
use Rattle.wsyntax.specs.Execution.Step.{Work, Source, Invoke, Trap, Label, Frame, Config, Kind}
use Rattle.wsyntax.specs.Execution.Chain.{Step, charge}
use Rattle.wsyntax.specs.Execution.Ends.{Outcome, Ends}
use Rattle.wsyntax.specs.Validation.Context.{Context}
use Rattle.wsyntax.specs.Execution.Laws.{CallTyped}

-- more for an instruction that becomes another one
abbrev pub op_weight : Op → ℕ
op_weight (BrIf x) = 3
op_weight (BrTable xs x) = 3
op_weight (LocalTee x) = 3
op_weight _ = 2

-- the weight of source code
abbrev pub size : Code → ℕ
size Stop = 0
size (Plain i rest) = op_weight i + size rest
size (Block t body rest) = 3 + size body + size rest
size (Loop t body rest) = 3 + size body + size rest
size (If t body rest) = 3 + size body + size rest
size (IfElse t body other rest) = 3 + size body + size other + size rest

-- a trap alone is as light as can be
abbrev pub trap_weight : List Value → Code → ℕ
trap_weight [] Stop = 0
trap_weight _ rest = 1 + size rest

-- the weight of what is left to do: each step without a charge makes it smaller
abbrev pub weight : Work → ℕ
weight (Source vs code) = size code
weight (Invoke vs f rest) = 1 + size rest
weight (Trap vs trap rest) = trap_weight vs rest
weight (Label vs n cont inner rest) = 1 + weight inner + size cont + size rest
weight (Frame vs n own inner rest) = 2 + weight inner + size rest

-- a step that is not charged makes the work lighter
abbrev pub Lighter : Type 0
Lighter = (m : Module) (c d : Config) (kind : Kind) → Step m c kind d → charge kind ≡ 0 → weight d.work < weight c.work

-- a typed call ends, within any limits
abbrev pub EndExists : Type 0
EndExists = (C : Context) (m : Module) (s : Store) (f : ℕ) (args : List Value) (sig : FuncType) → CallTyped C m s f args sig → (fuel frames : ℕ) → (o : Outcome) × (k : ℕ) × (s' : Store) × Ends m s f args fuel frames o k s'
