use Rattle.std.proofs.Common.{◌≡◌, ℕ, ◌-◌, ◌≤◌, Bool, ◌&&◌, List, ◌++◌, length, sym, refl, ap, ◌∙◌, subst, arith, rules}
use Rattle.terms.specs.Terms.{symbol}
use Rattle.terms.specs.Signatures.{Signature}
use Rattle.terms.specs.Roots.{head_args}
use Rattle.rewriting.specs.FixedTree.{first_shared}
use Rattle.rewriting.specs.Growing.{sole_open, opened, grow}
use Rattle.drafts.specs.Books.{book_of}
use Rattle.drafts.specs.Stores.{seen}
use Rattle.trees.specs.Views.{steps_of}
use Rattle.trees.specs.Opens.{open_of}
use Rattle.trees.specs.Rows.{chosen}
use Rattle.trees.proofs.Drafted.{draft_short}
use Rattle.trees.proofs.Told.{place_some, place_none, shared_none, grown_some, grown_none}
use Rattle.trees.proofs.Growths.{GrownTo, grows_none}
use Rattle.trees.proofs.Stages.{fuel_left, none_added, rule_grown, none_grown}
use Rattle.trees.proofs.Branches.{few_arguments, Branching, branching, branch_fuel, branch_begins, branch_skip, branch_leads, branch_covered, branch_ends, branch_added, paid_all, NewHead, NewChild, new_short, new_open, new_child, new_room, new_added, new_missing, new_more}
use Rattle.trees.proofs.store.Store.+grow.Goals as goal
use Rattle.trees.proofs.store.Store.+grow.Goals.{In_ok-shared, In-Some-new_head, After-arity_of-arity, After-with_head, After-push_opened, After-loop-i, then-complete, else-complete, then-covered, else-covered}

pub returns-in-Some : goal.returns-in-Some
returns-in-Some t c =
    let d = c.args.draft.now in
    let B = book_of (seen d) in
    let ps = open_of c.args.stage.positions.now in
    let rs = chosen c.args.stage.remain.now B.rules in
    let x = place_some B.rules (sole_open ps rs) c.in-Some.rule c.in-Some.ensures in
    let fuel = fuel_left B (draft_short d) c.args.fuel ps rs c.requires.stage in
    record {
      fits = none_added B (draft_short d) c.args.fuel ps rs c.requires.stage c.args.self.now;
      grown = rule_grown B.signature B.rules c.args.self.now c.args.fuel ps rs x.0 c.in-Some.rule fuel x.1 x.2;
    }

pub returns-in_err-shared : goal.returns-in_err-shared
returns-in_err-shared t c =
    let d = c.args.draft.now in
    let B = book_of (seen d) in
    let ps = open_of c.args.stage.positions.now in
    let m = c.args.stage.remain.now in
    let rs = chosen m B.rules in
    let e = place_none B.rules (sole_open ps rs) c.in_default.ensures in
    let f = shared_none B.rules m (first_shared ps rs) c.in_err-shared.ensures in
    record {
      fits = none_added B (draft_short d) c.args.fuel ps rs c.requires.stage c.args.self.now;
      grown = none_grown B.signature B.rules c.args.self.now c.args.self.now (grow B.signature c.args.fuel ps rs) c.from_residual.result (grows_none B.signature c.args.fuel ps rs e f) c.from_residual.ensures;
    }

-- no rule is left alone, and those that remain share a position
at_branch : {t : ℕ} (c : In_ok-shared t) → Branching c.args.draft.now (open_of c.args.stage.positions.now) c.args.stage.remain.now c.args.fuel c.in_ok-shared.shared
at_branch c = branching c.args.draft.now (open_of c.args.stage.positions.now) c.args.stage.remain.now c.args.fuel c.in_ok-shared.shared c.requires.stage c.in_default.ensures c.in_ok-shared.ensures (search rules)

-- a symbol is new
at_head : {t : ℕ} (c : In-Some-new_head t) → NewHead c.in_ok-shared.shared c.loop-i.i c.in-Some-new_head.symbol
at_head c = record { after = omega (arith, c.loop-i-test.true); within = omega (arith, c.loop-i.auto.i); new = c.in-Some-new_head.ensures }

-- its arity
at_arity : {t : ℕ} (c : After-arity_of-arity t) → c.arity_of-arity.result ≡ length (head_args (book_of (seen c.args.draft.now)).signature (symbol c.in-Some-new_head.symbol))
at_arity c = c.arity_of-arity.ensures ∙ ap (λ (S : Signature). length (head_args S (symbol c.in-Some-new_head.symbol))) c.declared.ensures.signature

-- its open positions
at_opened : {t : ℕ} (c : After-push_opened t) → open_of c.push_opened.new.self ≡ opened (open_of c.args.stage.positions.now) (steps_of c.in_ok-shared.shared.path) c.arity_of-arity.result
at_opened c = c.push_opened.ensures ∙ ap (λ (ps : List (List ℕ)). ps ++ opened (open_of c.args.stage.positions.now) (steps_of c.in_ok-shared.shared.path) c.arity_of-arity.result) c.none-positions.ensures

-- what its child is
at_child : {t : ℕ} (c : After-with_head t)
    → NewChild c.args.draft.now (open_of c.args.stage.positions.now) c.args.stage.remain.now c.args.fuel c.in_ok-shared.shared c.in-Some-new_head.symbol (open_of c.push_opened.new.self) c.with_head.result
at_child {t} c =
    let p = goal.at.After-with_head t c in
    new_child (at_branch p.In_ok-shared) (at_head p.In-Some-new_head) (open_of c.push_opened.new.self) c.with_head.result c.arity_of-arity.result (at_opened p.After-push_opened) (at_arity p.After-arity_of-arity) c.with_head.ensures

-- all children
at_end : {t : ℕ} (c : After-loop-i t) → GrownTo (book_of (seen c.args.draft.now)) (open_of c.args.stage.positions.now) c.args.stage.remain.now c.args.fuel (steps_of c.in_ok-shared.shared.path) c.in_ok-shared.shared.heads 0 c.args.self.now c.loop-i.self c.loop-i.children c.loop-i.complete
at_end c =
    let none : c.loop-i.i ≡ 0 = omega (arith, c.loop-i-test.false) in
    subst (λ (i : ℕ). GrownTo (book_of (seen c.args.draft.now)) (open_of c.args.stage.positions.now) c.args.stage.remain.now c.args.fuel (steps_of c.in_ok-shared.shared.path) c.in_ok-shared.shared.heads i c.args.self.now c.loop-i.self c.loop-i.children c.loop-i.complete) none c.loop-i.invariant

pub loop-i-init : goal.loop-i-init
loop-i-init t c = branch_begins (at_branch (goal.at.loop-i-init t c).In_ok-shared) c.args.self.now

pub loop-i-preserved : goal.loop-i-preserved
loop-i-preserved t c = branch_skip (at_branch (goal.at.loop-i-preserved t c).In_ok-shared) (omega (arith, c.loop-i-test.true)) (omega (arith, c.loop-i.auto.i)) c.in_default-new_head.ensures c.loop-i.invariant

pub push_opened-requires : goal.push_opened-requires
push_opened-requires t c =
    let b = at_branch (goal.at.push_opened-requires t c).In_ok-shared in
    let h = at_head (goal.at.push_opened-requires t c).In-Some-new_head in
    let arity = at_arity (goal.at.push_opened-requires t c).After-arity_of-arity in
    let few = few_arguments c.args.draft.now.signature c.in-Some-new_head.symbol in
    let room : length (opened (open_of c.args.stage.positions.now) (steps_of c.in_ok-shared.shared.path) c.arity_of-arity.result) ≤ 64 = new_open b h c.arity_of-arity.result arity in
    let none = ap length c.none-positions.ensures in
    record { few = omega arith; short = new_short b h; room = omega arith }

pub overflow_sub-fuel : goal.overflow_sub-fuel
overflow_sub-fuel t c = branch_fuel (at_branch (goal.at.overflow_sub-fuel t c).In_ok-shared)

pub grow-requires : goal.grow-requires
grow-requires t c =
    let p = goal.at.grow-requires t c in
    let b = at_branch p.In_ok-shared in
    let h = at_head p.In-Some-new_head in
    let z = at_child p.After-with_head in
    let room = new_room b h c.loop-i.invariant in
    let all = paid_all b in
    (omega (arith, c.decreases, branch_fuel b), (z.stage, omega (arith, c.requires.room, z.costs)))

pub returns-in_err-child : goal.returns-in_err-child
returns-in_err-child t c =
    let B = book_of (seen c.args.draft.now) in
    let p = goal.at.returns-in_err-child t c in
    let b = at_branch p.In_ok-shared in
    let h = at_head p.In-Some-new_head in
    let z = at_child p.After-with_head in
    let g = c.in_err-child.ensures in
    let none = grown_none B.signature B.rules c.loop-i.self c.grow.new.self (grow B.signature (c.args.fuel - 1) (open_of c.push_opened.new.self) (chosen c.with_head.result B.rules)) g.grown in
    record {
      fits = new_added b h c.grow.new.self z c.loop-i.invariant g.fits;
      grown = none_grown B.signature B.rules c.args.self.now c.grow.new.self (grow B.signature c.args.fuel (open_of c.args.stage.positions.now) (chosen c.args.stage.remain.now B.rules)) c.from_residual-in_err-child.result (new_missing b h z none) c.from_residual-in_err-child.ensures;
    }

pub push-children-requires : goal.push-children-requires
push-children-requires t c =
    let p = goal.at.push-children-requires t c in
    let b = at_branch p.In_ok-shared in
    let h = at_head p.In-Some-new_head in
    let w = new_added b h c.grow.new.self (at_child p.After-with_head) c.loop-i.invariant c.in_ok-child.ensures.fits in
    omega (arith, c.requires.room, w)

pub loop-i-preserved-in-Some-new_head : goal.loop-i-preserved-in-Some-new_head
loop-i-preserved-in-Some-new_head t c =
    let B = book_of (seen c.args.draft.now) in
    let p = goal.at.loop-i-preserved-in-Some-new_head t c in
    let b = at_branch p.In_ok-shared in
    let h = at_head p.In-Some-new_head in
    let z = at_child p.After-with_head in
    let g = c.in_ok-child.ensures in
    let k = c.in_ok-child.child in
    let some = grown_some B.signature B.rules c.loop-i.self c.grow.new.self (grow B.signature (c.args.fuel - 1) (open_of c.push_opened.new.self) (chosen c.with_head.result B.rules)) k g.grown in
    let both : c.if-complete.complete ≡ (c.loop-i.complete && k.complete) =
    elim c.if-complete.branch [
      | then-complete w ↦ w.complete-is ∙ ap (λ (y : Bool). y && k.complete) (sym w.if-complete.true)
      | else-complete w ↦ w.complete-is ∙ w.if-complete.false ∙ ap (λ (y : Bool). y && k.complete) (sym w.if-complete.false)
    ] in
    let more = new_more b h c.grow.new.self k _ some.0 z c.loop-i.invariant g.fits some.1 some.2 some.3 c.push-children.ensures.pushed refl refl refl in
    rw (both, c.push-children.ensures.place) more

pub covers-covered-requires : goal.covers-covered-requires
covers-covered-requires t c =
    let p = goal.at.covers-covered-requires t c in
    branch_leads (at_branch p.In_ok-shared) (at_end p.After-loop-i)

pub returns : goal.returns
returns t c =
    let B = book_of (seen c.args.draft.now) in
    let p = goal.at.returns t c in
    let b = at_branch p.In_ok-shared in
    let h = at_end p.After-loop-i in
    let covered = branch_covered b c.declared-2.result.signature.now c.covers-covered.result c.declared-2.ensures.signature c.covers-covered.ensures in
    let both : c.if-covered.whole ≡ (c.covers-covered.result && c.loop-i.complete) =
    elim c.if-covered.branch [
      | then-covered w ↦ w.whole-is ∙ ap (λ (y : Bool). y && c.loop-i.complete) (sym w.if-covered.true)
      | else-covered w ↦ w.whole-is ∙ w.if-covered.false ∙ ap (λ (y : Bool). y && c.loop-i.complete) (sym w.if-covered.false)
    ] in
    record { fits = branch_added b h; grown = rw both (branch_ends b c.covers-covered.result covered h) }
