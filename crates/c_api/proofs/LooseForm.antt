-- A `Loose` at its type parameters, under short names, and what a `&` to one shows of its pointer. Assumes `Logic`.
use mathlib.Core.List.{[], ◌∷◌}
use Prim.Native.Nat.{ℕ, ◌+◌}
use seplogic.Ra.Ura.{Ura}
use base.Logic.{ent, sep}
use base.Fml.{Lft, Fml}
use types.Logic.{Logic, sem}
use types.Kit.{‵, ◌$◌, ◌∵◌, !, qed, keep, fsplit, done}
use denote.RattleType.{RattleType, RowLaws}
use denote.Memory.{hidden_shr}
use denote.Opens.{shr_dup, unhide, hide}
use denote.RawPtr.{RawPtr, ptr_row_laws}
use denote.SharingLaws.{beside_shr_laws}
use denote.Struct.Struct.{Struct, Struct-row_laws}
use denote.Struct.Owning.{Owning, shape}
use denote.Struct.Lending.{lent_at, lent_at_shr_laws}
use Rattle.std_alloc.proofs.BoxSteps.Form.{Bx, X, R, P}
use Rattle.c_api.specs.declared.loose.Loose.{Loose}
use Rattle.c_api.specs.contracts.loose.Loose as loose

module _ (E : Bx) where
  abbrev pub D : Type 0
  D = Loose (X E) E.al.row.Denot

  abbrev pub owning : Owning
  owning = loose.the_type (R E) (P E) E.al.g

  abbrev pub B : RattleType
  B = loose.the_row (R E) (P E) E.al.g

  pub loose_row_laws : RowLaws B
  loose_row_laws d b o = beside_shr_laws ((Struct (shape owning)).shr_at (d.at, (d.alloc, tt)) b o) (lent_at (R E) d.at d.value)
      (Struct-row_laws (shape owning) (ptr_row_laws, (E.al.laws.shr_laws, tt)) (d.at, (d.alloc, tt)) b o) (lent_at_shr_laws (R E) E.laws.shr_laws d.at d.value)

  module _ {M : Type 1} {𝓤 : Ura M} (𝓛 : Logic 𝓤) (κ : Lft) (b o : ℕ) (d : D) where
    abbrev Words : RattleType
    Words = Struct (shape owning)

    abbrev fields : Words.Denot
    fields = (d.at, (d.alloc, tt))

    abbrev S : Fml
    S = hidden_shr Words κ fields b o

    laws : RowLaws Words
    laws = Struct-row_laws (shape owning) (ptr_row_laws, (E.al.laws.shr_laws, tt))

    pub shows_at : ent 𝓤 (sem 𝓛 S) (sep 𝓤 (sem 𝓛 (hidden_shr RawPtr κ d.at b (o + 0))) (sem 𝓛 S))
    shows_at = qed 𝓛 (‵ S ∷ []) ∵ shr_dup ! Words laws fields b o κ $ unhide ! $ fsplit ! $ fsplit ! $ hide ! $ keep ! (0 ∷ 3 ∷ []) $ done !
