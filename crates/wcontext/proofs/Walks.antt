-- Nodes that are counted and put in order.
use Rattle.std.proofs.Common.{◌≡◌, ◌≢◌, ℕ, ◌+◌, ◌<◌, ◌≤◌, List, length, drop, get_or, set, refl, sym, ap, subst, ◌∙◌, arith, inl, inr, length-set}
use Rattle.std.proofs.lemmas.Bool.{cases_lt, cases_eq}
use Rattle.std.proofs.lemmas.Bool.Decides.{nat_tests}
use Rattle.std.proofs.lemmas.List.{get_or-set_same, get_or-set_other, at_drop_more}
use Rattle.wsyntax.specs.declared.ValType.{ValType}
use Rattle.wcontext.specs.declared.nodes.Node.{Node}
use Rattle.wcontext.specs.Lists.{IsSuffix}
use Rattle.wcontext.specs.Nodes.{text, above_at, below_at, IsLinked}
use Rattle.wcontext.specs.Walk.{IsWalk, HaveLinksOf, count_at, AreCounted}
use Rattle.wcontext.proofs.Children.{above_kept, below_there, below_kept}
use Rattle.wcontext.proofs.Links.{suffix_itself, suffix_through}

-- Counting.

count_more : (nodes : List Node) (i q : ℕ) → i < length nodes → (above_at nodes i ≡ q → count_at (drop i nodes) q ≡ below_at nodes i + count_at (drop (i + 1) nodes) q) × (above_at nodes i ≢ q → count_at (drop i nodes) q ≡ count_at (drop (i + 1) nodes) q)
count_more nodes i q within =
    let step = at_drop_more (λ (l : List Node). count_at l q) nodes i record { above = 0; below = 0 } within in
    (λ same. grind (arith, nat_tests), λ other. grind (arith, nat_tests))

pub linked_alike : (texts : List (List ValType)) (old new : List Node) → HaveLinksOf old new → IsLinked texts old → IsLinked texts new
linked_alike texts old new same linked = record {
  size = same.size ∙ linked.size;
  below = λ q above within. omega (arith, same.links q, linked.below q above within);
  ends = λ q above within. rw (same.links q) (linked.ends q above within);
}

-- The preorder.

pub walk_more : (R : ℕ → ℕ → Type 0) (s e n u v m : ℕ → ℕ) (i f : ℕ) → IsWalk R s e n i → ((a : ℕ) → R a a) → ((a : ℕ) → R a f → R a i) → f < i → n f < v i → v i ≤ e f → u i ≡ n f → m i ≡ n f + 1 → m f ≡ v i
    → ((a : ℕ) → a < i → u a ≡ s a) → ((a : ℕ) → a < i → v a ≡ e a) → ((a : ℕ) → a < i → a ≢ f → m a ≡ n a) → IsWalk R u v m (i + 1)
walk_more R s e n u v m i f walk itself through before some within here next used starts ends others =
    let grows : (b : ℕ) → b < i → n b ≤ m b = λ b low. elim (cases_eq b f) [
      | inl same ↦ subst (λ z. n z ≤ m z) (sym same) (omega (arith, used, some))
      | inr other ↦ omega (arith, others b low other)
    ] in
    let last : (a : ℕ) → a < i + 1 → i ≤ a → i ≡ a = λ a low high. omega arith in
    let taken : (b x : ℕ) → b < i → n f ≤ x → x < v i → m b ≤ x → x < v b → ⊥ = λ b x low from to free under.
    let same : b ≡ f = walk.apart b f x low before (omega (arith, grows b low, free)) (omega (arith, ends b low, under)) from (omega (arith, to, within)) in
    omega (arith, ap m same, used, free, to) in
    record {
      ends = λ a b al bl low high. elim (cases_lt a i) [
        | inl af ↦ elim (cases_lt b i) [
          | inl bf ↦ walk.ends a b af bf (omega (arith, low, starts a af, starts b bf)) (omega (arith, high, starts b bf, ends a af))
          | inr bi ↦
              let is = last b bl bi in
              let at : u b ≡ n f = ap u (sym is) ∙ here in
              subst (R a) is (through a (walk.free a f (n f) af before (omega arith) (omega (arith, some, within)) (omega (arith, low, at, starts a af)) (omega (arith, high, at, ends a af))))
        ]
        | inr ai ↦ elim (cases_lt b i) [
          | inl bf ↦
              let is = last a al ai in
              absurd (walk.given b f bf before (omega (arith, low, ap u is, here, starts b bf)) (omega (arith, high, ap v is, within, starts b bf)))
          | inr bi ↦ subst (R a) (sym (last a al ai) ∙ last b bl bi) (itself a)
        ]
      ];
      free = λ a b x al bl from to low high. elim (cases_lt b i) [
        | inl bf ↦ elim (cases_lt a i) [
          | inl af ↦ walk.free a b x af bf (omega (arith, grows b bf, from)) (omega (arith, ends b bf, to)) (omega (arith, low, starts a af)) (omega (arith, high, ends a af))
          | inr ai ↦ let is = last a al ai in absurd (taken b x bf (omega (arith, low, ap u is, here)) (omega (arith, high, ap v is)) from to)
        ]
        | inr bi ↦
            let is = last b bl bi in
            let above : n f ≤ x = omega (arith, from, ap m is, next) in
            let under : x < v i = omega (arith, to, ap v is) in
            elim (cases_lt a i) [
              | inl af ↦ subst (R a) is (through a (walk.free a f x af before above (omega (arith, under, within)) (omega (arith, low, starts a af)) (omega (arith, high, ends a af))))
              | inr ai ↦ subst (R a) (sym (last a al ai) ∙ is) (itself a)
            ]
      ];
      apart = λ a b x al bl af at bf bt. elim (cases_lt a i) [
        | inl ai ↦ elim (cases_lt b i) [
          | inl bi ↦ walk.apart a b x ai bi (omega (arith, grows a ai, af)) (omega (arith, ends a ai, at)) (omega (arith, grows b bi, bf)) (omega (arith, ends b bi, bt))
          | inr bi ↦ let is = last b bl bi in absurd (taken a x ai (omega (arith, bf, ap m is, next)) (omega (arith, bt, ap v is)) af at)
        ]
        | inr ai ↦ elim (cases_lt b i) [
          | inl bi ↦ let is = last a al ai in absurd (taken b x bi (omega (arith, af, ap m is, next)) (omega (arith, at, ap v is)) bf bt)
          | inr bi ↦ sym (last a al ai) ∙ last b bl bi
        ]
      ];
      given = λ a b al bl from to. elim (cases_lt a i) [
        | inl ai ↦ elim (cases_lt b i) [
          | inl bi ↦ walk.given a b ai bi (omega (arith, grows b bi, from, starts a ai)) (omega (arith, ends b bi, to, starts a ai))
          | inr bi ↦ let is = last b bl bi in walk.given a f ai before (omega (arith, from, ap m is, next, starts a ai)) (omega (arith, to, ap v is, within, starts a ai))
        ]
        | inr ai ↦ let is = last a al ai in elim (cases_lt b i) [
          | inl bi ↦ taken b (n f) bi (omega arith) some (omega (arith, from, ap u is, here)) (omega (arith, to, ap u is, here))
          | inr bi ↦ let one = last b bl bi in omega (arith, from, ap u is, ap m one, here, next)
        ]
      ];
    }

-- node i, whose link leads to f, is numbered
pub walk_next : (texts : List (List ValType)) (old nodes new : List Node) (i f : ℕ) (n m : Node) → IsLinked texts old → AreCounted old → length nodes ≡ length old → ((k : ℕ) → i ≤ k → get_or nodes k record { above = 0; below = 0 } ≡ get_or old k record { above = 0; below = 0 })
    → IsWalk (λ a b. IsSuffix (text texts a) (text texts b)) (above_at nodes) (λ a. below_at nodes a + count_at (drop i old) a) (below_at nodes) i
    → 0 < i → i < length nodes → f ≡ above_at nodes i → f < i → n.above ≡ above_at nodes f → n.below ≡ below_at nodes f + below_at nodes i → m.above ≡ below_at nodes f → m.below ≡ below_at nodes f + 1 → new ≡ set (set nodes f n) i m
    → IsWalk (λ a b. IsSuffix (text texts a) (text texts b)) (above_at new) (λ a. below_at new a + count_at (drop (i + 1) old) a) (below_at new) (i + 1)
walk_next texts old nodes new i f n m linked counted size kept walk some within is low above below start next add_list =
    let mid = set nodes f n in
    let inside : f < length nodes = omega arith in
    let wide : i < length mid = omega (arith, length-set nodes f n) in
    let there : i < length old = omega arith in
    let late : i < length texts = omega (arith, linked.size) in
    let link : above_at old i ≡ f = sym (ap (λ (x : Node). x.above) (kept i (omega arith))) ∙ sym is in
    let whole : below_at old i ≡ below_at nodes i = sym (ap (λ (x : Node). x.below) (kept i (omega arith))) in
    let start_new : above_at new i ≡ below_at nodes f = rw add_list (ap (λ (x : Node). x.above) (get_or-set_same mid i m record { above = 0; below = 0 } wide)) ∙ start in
    let next_new : below_at new i ≡ below_at nodes f + 1 = rw add_list (below_there mid i m i wide refl) ∙ next in
    let before : (a : ℕ) → a < i → below_at new a ≡ below_at mid a = λ a early. rw add_list (below_kept mid i m a (λ same. omega (arith, same, early))) in
    let used : below_at new f ≡ below_at nodes f + below_at nodes i = before f low ∙ below_there nodes f n f inside refl ∙ below in
    let others : (a : ℕ) → a < i → a ≢ f → below_at new a ≡ below_at nodes a = λ a early other. before a early ∙ below_kept nodes f n a other in
    let all : below_at old i ≡ 1 + count_at (drop (i + 1) old) i = counted i there in
    let at_f : count_at (drop i old) f ≡ below_at old i + count_at (drop (i + 1) old) f = (count_more old i f there).0 link in
    walk_more (λ a b. IsSuffix (text texts a) (text texts b)) (above_at nodes) (λ a. below_at nodes a + count_at (drop i old) a) (below_at nodes) (above_at new) (λ a. below_at new a + count_at (drop (i + 1) old) a) (below_at new) i f walk
    (λ a. suffix_itself (text texts a))
    (λ a ends. suffix_through _ _ _ ends (subst (λ k. IsSuffix (text texts k) (text texts i)) link (linked.ends i some late)))
    low
    (omega (arith, next_new))
    (omega (arith, next_new, all, whole, at_f))
    start_new
    next_new
    (omega (arith, used, next_new, all, whole))
    (λ a early. rw add_list (ap (λ (x : Node). x.above) (get_or-set_other mid i a m record { above = 0; below = 0 } (λ same. omega (arith, same, early)))) ∙ above_kept nodes f n a inside above)
    (λ a early. elim (cases_eq a f) [
      | inl same ↦ omega (arith, ap (below_at new) same, ap (below_at nodes) same, used, whole, at_f, ap (count_at (drop i old)) same, ap (count_at (drop (i + 1) old)) same)
      | inr other ↦ omega (arith, others a early other, (count_more old i a there).1 (λ e. other (sym e ∙ link)))
    ])
    others
