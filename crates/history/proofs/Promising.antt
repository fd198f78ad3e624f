-- The promises of a history, kept by one call after another.
use Rattle.std.proofs.Common.{◌≡◌, ℕ, zero, suc, ◌+◌, ◌<◌, take, get_or, ◌⊎◌, inl, inr, Bool, true, List, [], ◌∷◌, ◌++◌, length, Some, None, Option, refl, sym, ap, ◌∙◌, subst, ⊎_elim, arith}
use mathlib.Core.List.{Memᴰ}
use Rattle.std.specs.List.{All, zip}
use Rattle.std.specs.Option.{unwrap_or}
use Rattle.std.specs.Vec.{vec_items}
use Rattle.std.proofs.lemmas.List.{append_assoc, append-nil, length-append, same_from_push, take_all, take_more}
use Rattle.std.proofs.lemmas.List.Elements.{All-weaker}
use Rattle.rows.specs.declared.kinds.Kind.{Kind}
use Rattle.rows.specs.declared.stops.Fault.{Fault}
use Rattle.rows.specs.Bills.{shortest}
use Rattle.solver.specs.Calls.{Kept}
use Rattle.solver.specs.Laws.{Apart, Fresh, Lawful, Limited}
use Rattle.solver.specs.Meaning.{Meaning, lookup}
use Rattle.solver.specs.Stops.{draw_stop}
use Rattle.solver.proofs.Keeping.{kept-twice}
use Rattle.solver.proofs.Refusals.{ready}
use Rattle.history.specs.declared.calls.Call.{Call}
use Rattle.history.specs.declared.calls.Call.TheVariants.{Open, Post, Next, Value, Rewind}
use Rattle.history.specs.declared.calls.Answer.{Answer}
use Rattle.history.specs.declared.calls.Answer.TheVariants.{Accepted, Refused, Found, Exhausted, Valued}
use Rattle.history.specs.Histories.{Moment, current, drawn, owed}
use Rattle.history.specs.Performing.{Does, Performed, refused_by}
use Rattle.history.proofs.Telling.{refused-quiet, tells-found, tells-none, tells-none-left, tells-open, tells-post, tells-quiet, tells-rewind, value-quiet}
use Rattle.history.specs.Promises.{AllDrawn, Answers, Complete, Promised, Tells, refusal, solution}

-- what an answer says of the history before its call
abbrev pub Answered : Kind → (ℕ → List ℕ → Option Fault) → List Moment → Call → Answer → Type 0
Answered kind stop h c (Refused f) = refusal kind stop h c ≡ Some f
Answered kind stop h (Open n bill) Accepted = refusal kind stop h (Open n bill) ≡ None
Answered kind stop h (Post row) Accepted = refusal kind stop h (Post row) ≡ None
Answered kind stop h Next (Found xs) = (refusal kind stop h Next ≡ None) × (solution kind h (vec_items xs) ≡ true) × (Memᴰ (vec_items xs) (drawn h) → ⊥)
Answered kind stop h Next Exhausted = (refusal kind stop h Next ≡ None) × AllDrawn kind h
Answered kind stop h (Value i) (Valued x) = x ≡ lookup (current h) i
Answered kind stop h Rewind Accepted = Unit {0}
Answered kind stop h c a = ⊥

-- at every moment, and at every front
abbrev pub AtMoments : Kind → (ℕ → List ℕ → Option Fault) → List Moment → Type 0
AtMoments kind stop h = (before after : List Moment) (c : Call) (a : Answer) → h ≡ before ++ ((c, a) ∷ after) → Answered kind stop before c a

abbrev pub Sound : Kind → List Moment → Type 0
Sound kind h = All (λ xs. solution kind h xs ≡ true) (drawn h) × Apart (drawn h)

abbrev pub AtFronts : Kind → List Moment → Type 0
AtFronts kind h = (front after : List Moment) → h ≡ front ++ after → Sound kind front

-- a list that is not empty has a last element
last-of : {X : Type 0} (y : X) (ys : List X) → (start : List X) × (last : X) × (y ∷ ys ≡ start ++ last ∷ [])
last-of y [] = ([], y, refl)
last-of {X} y (z ∷ zs) = let r = last-of z zs in (y ∷ r.0, r.1, ap (λ (l : List X). y ∷ l) r.2)

-- where a list and one element more is cut before an element: it is that element, or the list is cut there too
cut-push : {X : Type 0} (h before after : List X) (e x : X) → h ++ e ∷ [] ≡ before ++ x ∷ after → ((rest : List X) × (h ≡ before ++ x ∷ rest)) ⊎ ((h ≡ before) × (e ≡ x))
cut-push h before [] e x c = inr (same_from_push h before e x c)
cut-push {X} h before (y ∷ ys) e x c =
    let r = last-of y ys in
    let d : h ++ e ∷ [] ≡ (before ++ x ∷ r.0) ++ r.1 ∷ [] = c ∙ (ap (λ (l : List X). before ++ x ∷ l) r.2 ∙ sym (append_assoc before (x ∷ r.0) (r.1 ∷ []))) in
    inl (r.0, (same_from_push h (before ++ x ∷ r.0) e r.1 d).0)

-- and where it is cut anywhere: behind that element, or the list is cut there too
front-push : {X : Type 0} (h front after : List X) (e : X) → h ++ e ∷ [] ≡ front ++ after → ((rest : List X) × (h ≡ front ++ rest)) ⊎ (h ++ e ∷ [] ≡ front)
front-push h front [] e c = inr (c ∙ append-nil front)
front-push {X} h front (y ∷ ys) e c =
    let r = last-of y ys in
    let d : h ++ e ∷ [] ≡ (front ++ r.0) ++ r.1 ∷ [] = c ∙ (ap (λ (l : List X). front ++ l) r.2 ∙ sym (append_assoc front r.0 (r.1 ∷ []))) in
    inl (r.0, (same_from_push h (front ++ r.0) e r.1 d).0)

-- one moment more
pub moments-none : (kind : Kind) (stop : ℕ → List ℕ → Option Fault) → AtMoments kind stop []
moments-none kind stop before after c a e = absurd (let n = ap length e in omega (arith, length-append before ((c, a) ∷ after)))

pub moments-push : (kind : Kind) (stop : ℕ → List ℕ → Option Fault) (h : List Moment) (c : Call) (a : Answer) → AtMoments kind stop h → Answered kind stop h c a → AtMoments kind stop (h ++ (c, a) ∷ [])
moments-push kind stop h c a all last before after d b e =
    ⊎_elim {C = Answered kind stop before d b}
    (λ (l : (rest : List Moment) × (h ≡ before ++ (d, b) ∷ rest)). all before l.0 d b l.1)
    (λ (r : (h ≡ before) × (◌≡◌ {A = Moment} (c, a) (d, b))). subst (λ (g : List Moment). Answered kind stop g d b) r.0 (subst (λ (m : Moment). Answered kind stop h m.0 m.1) r.1 last))
    (cut-push h before after (c, a) (d, b) e)

fronts-none : (kind : Kind) → Sound kind [] → AtFronts kind []
fronts-none kind s [] after e = s
fronts-none kind s (x ∷ front) after e = absurd (let n = ap length e in omega arith)

pub fronts-push : (kind : Kind) (h : List Moment) (e : Moment) → AtFronts kind h → Sound kind (h ++ e ∷ []) → AtFronts kind (h ++ e ∷ [])
fronts-push kind h e all last front after d =
    ⊎_elim {C = Sound kind front}
    (λ (l : (rest : List Moment) × (h ≡ front ++ rest)). all front l.0 l.1)
    (λ (r : h ++ e ∷ [] ≡ front). subst (Sound kind) r last)
    (front-push h front after e d)

-- what a sound solver has drawn
pub sound-drawn : (h : List Moment) (m : Meaning) → Tells h m → Lawful m → Sound m.kind h
sound-drawn h m t l = (subst (All (λ xs. solution m.kind h xs ≡ true)) t.drawn (All-weaker (λ xs. m.solves xs ≡ true) (λ xs. solution m.kind h xs ≡ true) (λ xs s. sym (t.solves xs) ∙ s) m.drawn l.sure), subst Apart t.drawn l.apart)

module _ (h : List Moment) (m m' : Meaning) (t : Tells h m) where
  refusal-told : (c : Call) → refusal m.kind m.stop h c ≡ refused_by m c
  refusal-told (Open n bill) = refl
  refusal-told (Post row) = sym (rw (t.vars, t.owed) refl)
  refusal-told Next = sym (rw t.owed refl)
  refusal-told (Value i) = refl
  refusal-told Rewind = refl

  -- what a call does says what its answer says
  pub answered : (c : Call) (a : Answer) → Does m m' c a → Answered m.kind m.stop h c a
  answered c (Refused f) d = refusal-told c ∙ d.0
  answered (Open n bill) Accepted d = d.0
  answered (Post row) Accepted d = refusal-told (Post row) ∙ d.0
  answered Next (Found xs) d =
      let same : d.2.list ≡ vec_items xs = ap (λ (o : Option (List Bool)). unwrap_or o []) (sym d.2.current ∙ d.3) in (
        refusal-told Next ∙ d.0,
        subst (λ (l : List Bool). solution m.kind h l ≡ true) same (sym (t.solves d.2.list) ∙ d.2.solution),
        λ k. d.2.undrawn (subst (λ (ls : List (List Bool)). Memᴰ d.2.list ls) (sym t.drawn) (mathlib.Core.List.Memᴰ.cast same k)),
      )
  answered Next Exhausted d = (refusal-told Next ∙ d.0, λ xs s. subst (λ (ls : List (List Bool)). Memᴰ xs ls) t.drawn (d.2.all xs (t.solves xs ∙ s)))
  answered (Value i) (Valued x) d = d.0 ∙ ap (λ (o : Option (List Bool)). lookup o i) t.current
  answered Rewind Accepted d = tt
  answered c a d = absurd d

-- from what each answer says, the promises
answers-own : (kind : Kind) (stop : ℕ → List ℕ → Option Fault) (h : List Moment) (c : Call) (a : Answer) → Answered kind stop h c a → Answers (refusal kind stop h c) c a
answers-own kind stop h c (Refused f) d = d
answers-own kind stop h (Open n bill) Accepted d = d
answers-own kind stop h (Post row) Accepted d = d
answers-own kind stop h Next (Found xs) d = d.0
answers-own kind stop h Next Exhausted d = d.0
answers-own kind stop h (Value i) (Valued x) d = refl
answers-own kind stop h Rewind Accepted d = refl
answers-own kind stop h c a d = absurd d

value-own : (kind : Kind) (stop : ℕ → List ℕ → Option Fault) (h : List Moment) (i : ℕ) (a : Answer) → Answered kind stop h (Value i) a → a ≡ Valued (lookup (current h) i)
value-own kind stop h i (Valued x) d = ap (λ (o : Option Bool). Valued o) d
value-own kind stop h i (Refused f) d = absurd (let e : None ≡ Some f = d in cc)
value-own kind stop h i a d = absurd d

none-always : (kind : Kind) (stop : ℕ → List ℕ → Option Fault) (h : List Moment) (a : Answer) → Answered kind stop h Next a → shortest (owed h) ≡ None → AllDrawn kind h → a ≡ Exhausted
none-always kind stop h (Refused f) d n all = absurd (let e : draw_stop (owed h) ≡ Some f = d in grind arith)
none-always kind stop h (Found xs) d n all = absurd (d.2 (all (vec_items xs) d.1))
none-always kind stop h Exhausted d n all = refl
none-always kind stop h a d n all = absurd d

pub promised : (kind : Kind) (stop : ℕ → List ℕ → Option Fault) (h : List Moment) → AtMoments kind stop h → AtFronts kind h → Promised kind stop h
promised kind stop h moments fronts = record {
  stops = λ before after c a e. answers-own kind stop before c a (moments before after c a e);
  sure = λ front after e. (fronts front after e).0;
  apart = λ front after e. (fronts front after e).1;
  values = λ before after i a e. value-own kind stop before i a (moments before after (Value i) a e);
  none = λ before after e. let d = moments before after Next Exhausted e in (ready (owed before) d.0, d.1);
  always = λ before after a e n all. none-always kind stop before a (moments before after Next a e) n all;
}

-- a solver that means m now and meant first when it was made: all that its history promises so far
pub record So (first : Meaning) (h : List Moment) (m : Meaning) : Type 0 where
  pub kept : Kept first m
  pub moments : AtMoments first.kind first.stop h
  pub fronts : AtFronts first.kind h
  pub tells : Tells h m

pub so-none : (m : Meaning) → Fresh m → Lawful m → So m [] m
so-none m f l = let t = tells-none m f in record {
  kept = record { kind = refl; stop = refl };
  moments = moments-none m.kind m.stop;
  fronts = fronts-none m.kind (sound-drawn [] m t l);
  tells = t;
}

-- what a call that does something tells
told : (h : List Moment) (m m' : Meaning) → Tells h m → Kept m m' → (c : Call) (a : Answer) → Does m m' c a → Tells (h ++ (c, a) ∷ []) m'
told h m m' t k c (Refused f) d = subst (Tells (h ++ (c, Refused f) ∷ [])) (sym d.1) (tells-quiet h m t (c, Refused f) (refused-quiet c f))
told h m m' t k (Open n bill) Accepted d = tells-open h m m' t n bill d.1
told h m m' t k (Post row) Accepted d = tells-post h m m' t row k d.1
told h m m' t k Next (Found xs) d = tells-found h m m' t xs d.1 d.2 d.3
told h m m' t k Next Exhausted d = tells-none-left h m m' t d.1 d.2
told h m m' t k (Value i) (Valued x) d = subst (Tells (h ++ (Value i, Valued x) ∷ [])) (sym d.1) (tells-quiet h m t (Value i, Valued x) (value-quiet i x))
told h m m' t k Rewind Accepted d = subst (Tells (h ++ (Rewind, Accepted) ∷ [])) (sym d) (tells-rewind h m t)
told h m m' t k c a d = absurd d

pub so-push : (first : Meaning) (h : List Moment) (m m' : Meaning) → So first h m → Lawful m' → Kept m m' → (c : Call) (a : Answer) → Does m m' c a → So first (h ++ (c, a) ∷ []) m'
so-push first h m m' s l k c a d =
    let t = told h m m' s.tells k c a d in
    let kept = kept-twice first m m' s.kept k in
    record {
      kept = kept;
      moments = moments-push first.kind first.stop h c a s.moments (rw (sym s.kept.kind, sym s.kept.stop) (answered h m m' s.tells c a d));
      fronts = fronts-push first.kind h (c, a) s.fronts (rw (sym kept.kind) (sound-drawn (h ++ (c, a) ∷ []) m' t l));
      tells = t;
    }

-- one call and one answer more
pub zip-push : {X Y : Type 0} (i : ℕ) (xs : List X) (ys : List Y) (d : X) (y : Y) → i < length xs → length ys ≡ i → zip (take (i + 1) xs) (ys ++ y ∷ []) ≡ zip (take i xs) ys ++ (get_or xs i d, y) ∷ []
zip-push i [] ys d y h n = absurd (omega arith)
zip-push zero (x ∷ xs) [] d y h n = refl
zip-push zero (x ∷ xs) (z ∷ ys) d y h n = absurd (omega arith)
zip-push (suc i) (x ∷ xs) [] d y h n = absurd (omega arith)
zip-push {X} {Y} (suc i) (x ∷ xs) (z ∷ ys) d y h n =
    let more : suc i + 1 ≡ suc (i + 1) = omega arith in
    rw more (ap (λ (l : List (X × Y)). (x, z) ∷ l) (zip-push i xs ys d y (omega arith) (omega arith)))

pub so-call : (first m m' : Meaning) (calls : List Call) (given after : List Answer) (i : ℕ) (d : Call) (a : Answer) → i < length calls → length given ≡ i → after ≡ given ++ a ∷ [] → So first (zip (take i calls) given) m → Lawful m' → Kept m m' → Does m m' (get_or calls i d) a → So first (zip (take (i + 1) calls) after) m'
so-call first m m' calls given after i d a h n e s l k does = subst (λ (g : List Moment). So first g m') (sym (ap (λ (l : List Answer). zip (take (i + 1) calls) l) e ∙ zip-push i calls given d a h n)) (so-push first (zip (take i calls) given) m m' s l k (get_or calls i d) a does)

-- no calls
pub performed-none : (m : Meaning) (given : List Answer) → given ≡ [] → Performed m [] given m
performed-none m [] e = refl
performed-none m (a ∷ given) e = absurd (let n = ap length e in omega arith)

-- calls performed one after another, and one more
performed-push : (m n o : Meaning) (calls : List Call) (given : List Answer) (c : Call) (a : Answer) → Performed m calls given n → Does n o c a → Performed m (calls ++ c ∷ []) (given ++ a ∷ []) o
performed-push m n o [] [] c a p d = (o, subst (λ (q : Meaning). Does q o c a) p d, refl)
performed-push m n o [] (b ∷ given) c a p d = absurd p
performed-push m n o (e ∷ calls) [] c a p d = absurd p
performed-push m n o (e ∷ calls) (b ∷ given) c a p d = (p.0, p.1, performed-push p.0 n o calls given c a p.2 d)

pub performed-call : (first m m' : Meaning) (calls : List Call) (given after : List Answer) (i : ℕ) (d : Call) (a : Answer) → i < length calls → after ≡ given ++ a ∷ [] → Performed first (take i calls) given m → Does m m' (get_or calls i d) a → Performed first (take (i + 1) calls) after m'
performed-call first m m' calls given after i d a h e p does = rw (take_more calls i d h, e) (performed-push first m m' (take i calls) given (get_or calls i d) a p does)

-- where every call was performed
pub complete : (first m : Meaning) (calls : List Call) (given : List Answer) (i : ℕ) → i ≡ length calls → So first (zip (take i calls) given) m → Lawful m → Limited first → Complete calls given first m
complete first m calls given i e s l limits =
    let so : So first (zip calls given) m = subst (λ (cs : List Call). So first (zip cs given) m) (take_all i calls (omega arith)) s in
    record {
      promised = promised first.kind first.stop (zip calls given) so.moments so.fronts;
      limited = limits;
      tells = so.tells;
      chained = l.chained;
      matched = λ owed. l.matched (ap shortest so.tells.owed ∙ owed);
    }

pub performed-all : (first m : Meaning) (calls : List Call) (given : List Answer) (i : ℕ) → i ≡ length calls → Performed first (take i calls) given m → Performed first calls given m
performed-all first m calls given i e p = subst (λ (cs : List Call). Performed first cs given m) (take_all i calls (omega arith)) p
