-- What an ill-typed token takes, what it finds, and in which blocks it stands.
use Rattle.std.specs.Prelude.{◌≡◌, ℕ, zero, suc, ◌+◌, ◌-◌, min, max, List, [], ◌∷◌, ◌++◌, Option, Some, None, MatchOption, IfSome, length, map, reverse, drop, take, option_map, slice_get}
use Rattle.wsyntax.specs.declared.ValType.{ValType}
use Rattle.wsyntax.specs.declared.ValType.TheVariants.{I32}
use Rattle.wsyntax.specs.declared.module.LocalRun.{LocalRun}
use Rattle.wsyntax.specs.Types.{FuncType}
use Rattle.wsyntax.specs.Instructions.{Token, Do, OpenBlock, OpenLoop, OpenIf, Else, End}
use Rattle.wsyntax.specs.Binary.Nesting.{token_at}
use Rattle.wsyntax.specs.Binary.Sections.{locals}
use Rattle.wsyntax.specs.Validation.Context.{Context, enter, block_sig}
use Rattle.wsyntax.specs.Validation.Algorithm.{Rule, Takes, Ends, Drops, Selects, rule, Frame, on, context_in, run, step}
use Rattle.wcheck.specs.Checking.{Checking, begun, with_frames}
use Rattle.wcheck.specs.Inspected.{take_top}
use Rattle.explain_typing.specs.declared.trail.Trail.{Trail}
use Rattle.explanation.specs.declared.typing.BlockKind.{BlockKind}
use Rattle.explanation.specs.declared.typing.BlockKind.TheVariants.{Block, Loop, If, Else as Second}
use Rattle.explanation.specs.declared.typing.OpenBlock.{OpenBlock as OpenedBlock}
use Rattle.explanation.specs.declared.typing.OpenBlocks.{OpenBlocks}
use Rattle.explanation.specs.declared.typing.Opening.{Opening}
use Rattle.explanation.specs.declared.typing.PassedToken.{PassedToken}
use Rattle.explanation.specs.declared.typing.Typing.{Typing}
use Rattle.explanation.specs.Functions.{type_told}
use Rattle.explain_bytes.specs.Locations.{IsTokenAt, left_after}

-- ---- the tokens before

-- these tokens, and then the one at the front of these bytes
abbrev pub with_next : List Token → Option (List ℕ) → Option (List Token)
with_next ts left = on left (λ bytes. option_map (λ t. ts ++ t.0 ∷ []) (token_at bytes))

-- 5.4 the first `n` tokens that bytes spell
abbrev pub first_tokens : ℕ → List ℕ → Option (List Token)
first_tokens zero bytes = Some []
first_tokens (suc n) bytes = on (first_tokens n bytes) (λ ts. with_next ts (left_after n bytes))

-- ---- 7.3 the operands

-- what a rule takes, the topmost first: None is an operand of any type
abbrev pub asked : Rule → List (Option ValType)
asked (Takes p q) = map Some p
asked (Ends p) = map Some p
asked Drops = None ∷ []
asked Selects = Some I32 ∷ None ∷ None ∷ []

-- what a token takes from the first of these frames, the topmost first, where what it names is there
abbrev pub pops : Context → Token → List Frame → Option (List (Option ValType))
pops C t [] = None
pops C (Do i) (f ∷ fs) = option_map asked (rule (context_in C (f ∷ fs)) i)
pops C (OpenBlock b) (f ∷ fs) = option_map (λ s. map Some (enter s)) (block_sig C.types b)
pops C (OpenLoop b) (f ∷ fs) = option_map (λ s. map Some (enter s)) (block_sig C.types b)
pops C (OpenIf b) (f ∷ fs) = option_map (λ s. Some I32 ∷ map Some (enter s)) (block_sig C.types b)
pops C Else (f ∷ fs) = Some (map Some f.gives)
pops C End (f ∷ fs) = Some (map Some f.gives)

-- operands one after another, as 7.3 pop_val takes them, until there is none
abbrev pub and_others : Option (Option ValType × List Frame) → (List Frame → List (Option ValType)) → List (Option ValType)
and_others None more = []
and_others (Some x) more = x.0 ∷ more x.1

abbrev pub topmost : ℕ → List Frame → List (Option ValType)
topmost zero fs = []
topmost (suc n) fs = and_others (take_top fs) (topmost n)

-- how many operands of the first frame have a position
abbrev pub known_in : List Frame → ℕ
known_in [] = 0
known_in (f ∷ fs) = length f.operands.known

-- at the end of a block what is left over is told too, but no more than 64 operands
abbrev pub with_left_over : ℕ → ℕ → ℕ
with_left_over n known = max n (min known (n + 64))

-- how many operands are told, of a token that takes n: as many, or at the end of a block those that are left over too
abbrev pub told_of : Token → ℕ → ℕ → ℕ
told_of Else n known = with_left_over n known
told_of End n known = with_left_over n known
told_of t n known = n

-- these are told, where it is known what the token takes
abbrev pub TellsTaken : Token → List Frame → Typing → List (Option ValType) → Type 0
TellsTaken t fs told p = (reverse told.takes.items ≡ p) × (reverse told.finds.items ≡ topmost (told_of t (length p) (known_in fs)) fs)

-- 7.3 what the token takes from these frames, and what it finds there; nothing where it names what is not there
abbrev pub TellsOperands : Context → Token → List Frame → Typing → Type 0
TellsOperands C t fs told =
    MatchOption (pops C t fs) ((told.takes.items ≡ []) × (told.finds.items ≡ [])) (TellsTaken t fs told)

-- ---- the blocks

-- 2.3.3 what a block takes and gives
abbrev pub frame_type : Frame → FuncType
frame_type f = record { params = reverse f.starts; results = reverse f.gives }

-- 3.4.1 the outermost frame is the function's
abbrev pub without_last : List FuncType → List FuncType
without_last [] = []
without_last (t ∷ []) = []
without_last (t ∷ u ∷ ts) = t ∷ without_last (u ∷ ts)

-- the types of the blocks that are open, the innermost first
abbrev pub block_types : List Frame → List FuncType
block_types fs = without_last (map frame_type fs)

-- where the second branch of the innermost block begins, which is an if
abbrev pub in_second : ℕ → List ℕ → List ℕ
in_second at [] = []
in_second at (o ∷ opened) = at ∷ opened

-- where the tokens begin that opened the open blocks, the innermost first, after a token that begins there
abbrev pub opened_by : Token → ℕ → List ℕ → List ℕ
opened_by (OpenBlock t) at opened = at ∷ opened
opened_by (OpenLoop t) at opened = at ∷ opened
opened_by (OpenIf t) at opened = at ∷ opened
opened_by Else at opened = in_second at opened
opened_by End at opened = drop 1 opened
opened_by (Do i) at opened = opened

-- the same after a token that is read
abbrev pub opened_next : Option (Token × List ℕ) → ℕ → List ℕ → List ℕ
opened_next None at opened = opened
opened_next (Some x) at opened = opened_by x.0 at opened

-- and after the one that these bytes of the code begin with
abbrev pub opened_at : List ℕ → Option (List ℕ) → List ℕ → List ℕ
opened_at code None opened = opened
opened_at code (Some bytes) opened = opened_next (token_at bytes) (length code - length bytes) opened

-- where the tokens begin in the code that opened the blocks which are open after `n` tokens, the innermost first
abbrev pub opened_after : ℕ → List ℕ → List ℕ
opened_after zero code = []
opened_after (suc n) code = opened_at code (left_after n code) (opened_after n code)

-- 5.4.1 the opcode of what opens a block, or its second branch
abbrev pub opcode_of : BlockKind → ℕ
opcode_of Block = 0x02
opcode_of Loop = 0x03
opcode_of If = 0x04
opcode_of Second = 0x05

-- the block that has `inner` open ones inside it was opened by a token of that kind at that offset; the code begins at `start`
abbrev pub IsOpening : List ℕ → ℕ → List ℕ → ℕ → Opening → Type 0
IsOpening code start opened inner o =
    (from : ℕ) × (slice_get opened inner ≡ Some from) × (o.at ≡ start + from) × (slice_get code from ≡ Some (opcode_of o.kind))

-- what is told of each of these blocks, the innermost first
abbrev pub AreOpenings : List ℕ → ℕ → List ℕ → List OpenedBlock → Type 0
AreOpenings code start opened blocks = (k : ℕ) (b : OpenedBlock) → slice_get blocks k ≡ Some b → IfSome b.opening (IsOpening code start opened k)

-- these are the outermost of the blocks that `opened` says, the outermost first
abbrev pub AreOutermost : List ℕ → ℕ → List ℕ → List Opening → Type 0
AreOutermost code start opened blocks = (k : ℕ) (o : Opening) → slice_get blocks k ≡ Some o → IsOpening code start opened k o

-- of the body that begins at offset `start` these blocks are open after its locals and `n` tokens
pub record AreOpenAfter (body : List ℕ) (start n : ℕ) (blocks : OpenBlocks) : Type 0 where
  pub runs : List LocalRun
  pub code : List ℕ
  pub declared : locals.read body ≡ Some (runs, code)
  pub count : blocks.count ≡ length (opened_after n code)
  pub outermost : AreOutermost code (start + (length body - length code)) (reverse (opened_after n code)) blocks.outermost.items

-- ---- as they are kept

abbrev pub KeepsCode : Trail → Trail → Type 0
KeepsCode old new = (new.code.now ≡ old.code.now) × (new.start ≡ old.start)

-- by what is kept of the open blocks
abbrev pub AreKept : Trail → List OpenedBlock → Type 0
AreKept t blocks = AreOpenings t.code.now t.start (reverse t.opened.items) blocks

-- ---- what is told

-- of the body that begins at offset `start` these are the first `n` tokens, but only those from the fourth before position `count` on
pub record ArePassed (body : List ℕ) (start count n : ℕ) (passed : List PassedToken) : Type 0 where
  pub number : length passed ≡ n - (count - 4)
  pub tokens : (k : ℕ) (p : PassedToken) → slice_get passed k ≡ Some p → (p.position ≡ (count - 4) + k) × IsTokenAt body start p.position p.found

-- of a token in these frames
pub record IsTypingIn (C : Context) (t : Token) (fs : List Frame) (told : Typing) : Type 0 where
  pub operands : TellsOperands C t fs told
  pub within : map (λ b. type_told b.signature) told.within.items ≡ take 8 (block_types fs)

-- the checker goes on by the first `position` tokens that bytes spell
pub record PassesTo (old : Checking) (code : List ℕ) (position : ℕ) (now : Checking) : Type 0 where
  pub tokens : List Token
  pub read : first_tokens position code ≡ Some tokens
  pub reached : run old.inside tokens old.frames ≡ Some now.frames
  pub same : now ≡ with_frames old now.frames

-- the same by one token
pub record StepsTo (bytes : List ℕ) (old : Checking) (after : List ℕ) (new : Checking) : Type 0 where
  pub token : Token
  pub next : ◌≡◌ {A = Option (Token × List ℕ)} (token_at bytes) (Some (token, after))
  pub step : step old.inside token old.frames ≡ Some new.frames
  pub same : new ≡ with_frames old new.frames

-- of the token at that position of the body of function f, which begins at offset `start`: the frames are those after the tokens before it
pub record IsTypingOf (C : Context) (f : ℕ) (body : List ℕ) (start position : ℕ) (told : Typing) : Type 0 where
  pub runs : List LocalRun
  pub code : List ℕ
  pub declared : locals.read body ≡ Some (runs, code)
  pub now : Checking
  pub before : PassesTo (begun C f runs) code position now
  pub left : List ℕ
  pub rest : left_after position code ≡ Some left
  pub token : Token
  pub after : List ℕ
  pub next : ◌≡◌ {A = Option (Token × List ℕ)} (token_at left) (Some (token, after))
  pub so : IsTypingIn now.inside token now.frames told
  pub openings : AreOpenings code (start + (length body - length code)) (opened_after position code) told.within.items
  pub passed : ArePassed body start position position told.passed.items
