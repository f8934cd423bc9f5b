-- A peer that has moved twice has moved once, by both.
use Rattle.std.proofs.Common.{◌≡◌, ◌∙◌, ℕ, ◌+◌, List, [], ◌∷◌, ◌++◌, append-nil, ap, ap₂, arith, refl, subst, sym}
use Rattle.std.proofs.lemmas.Grind.{flat_map-append}
use Rattle.std.proofs.lemmas.List.{append_assoc}
use Rattle.std.proofs.lemmas.List.Elements.{All-contains}
use Rattle.std.specs.List.{AllZip}
use Rattle.std.specs.Prelude.{All}
use Rattle.pf_commands.specs.Merge.{IsCommand, IsCommandMap, put_all}
use Rattle.pf_commands.proofs.Lists.{put_all-same}
use Rattle.pf_links.specs.Link.{Frame, handed}
use Rattle.pf_links.specs.declared.input.LinkIn.{LinkIn}
use Rattle.pf_links.specs.declared.output.LinkOut.{LinkOut}
use Rattle.pf_scripts.specs.Frames.{commands_in}
use Rattle.pf_scripts.specs.Peer.{IsLater, IsLaterByOne, WereHanded, all_fresh, commands_of, setting_of}
use Rattle.pf_scripts.specs.Play.{HasMoved}
use Rattle.pf_scripts.specs.declared.peer.Peer.{Peer}
use Rattle.pf_scripts.proofs.Fresh.{all_fresh_same, all_later_then, commands_then}
use Rattle.pf_scripts.proofs.Maps.{all_append, all_members, put_all-append}
use Rattle.pf_scripts.proofs.Members.{SameMembers, members_append, members_exchange, members_refl, members_then}
use Rattle.pf_scripts.proofs.Polls.{all_later_same}

handed_then : (fs gs : List Frame) (a b c : LinkOut) → WereHanded fs a b → WereHanded gs b c → WereHanded (fs ++ gs) a c
handed_then fs gs a b c first second = (search, second.1 ∙ ap (λ l. l ++ gs) first.1 ∙ append_assoc (handed a) fs gs)

all_handed_then : (fs gs : List Frame) (xs ys zs : List LinkOut) → AllZip (WereHanded fs) xs ys → AllZip (WereHanded gs) ys zs
    → AllZip (WereHanded (fs ++ gs)) xs zs
all_handed_then fs gs [] [] [] p q = tt
all_handed_then fs gs [] (y ∷ ys) zs p q = absurd p
all_handed_then fs gs [] [] (z ∷ zs) p q = absurd q
all_handed_then fs gs (x ∷ xs) [] zs p q = absurd p
all_handed_then fs gs (x ∷ xs) (y ∷ ys) [] p q = absurd q
all_handed_then fs gs (x ∷ xs) (y ∷ ys) (z ∷ zs) p q = (handed_then fs gs x y z p.0 q.0, all_handed_then fs gs xs ys zs p.1 q.1)

-- nothing was handed in
handed_same : (l : LinkOut) → WereHanded [] l l
handed_same l = (search, sym (append-nil (handed l)))

pub all_handed_same : (links : List LinkOut) → AllZip (WereHanded []) links links
all_handed_same [] = tt
all_handed_same (l ∷ links) = (handed_same l, all_handed_same links)

pub all_later : (xs ys : List LinkIn) → AllZip IsLaterByOne xs ys → AllZip IsLater xs ys
all_later [] [] p = tt
all_later [] (y ∷ ys) p = absurd p
all_later (x ∷ xs) [] p = absurd p
all_later (x ∷ xs) (y ∷ ys) p = (p.0.0, all_later xs ys p.1)

module _ (f g : List Frame) (t u : ℕ) (a b c : Peer) (map : IsCommandMap (commands_of a)) (first : HasMoved f t a b) (second : HasMoved g u b c) where
  -- what came in two parts, and as a whole
  parts : SameMembers (commands_in (setting_of a) (f ++ all_fresh a.inputs.items b.inputs.items) ++ commands_in (setting_of a) (g ++ all_fresh b.inputs.items c.inputs.items))
      (commands_in (setting_of a) ((f ++ g) ++ all_fresh a.inputs.items c.inputs.items))
  parts =
      let s = setting_of a in
      let ab = all_fresh a.inputs.items b.inputs.items in
      let bc = all_fresh b.inputs.items c.inputs.items in
      let ac = all_fresh a.inputs.items c.inputs.items in
      let cs = commands_in s in
      let split : (xs ys : List Frame) → cs (xs ++ ys) ≡ cs xs ++ cs ys = λ xs ys. flat_map-append _ xs ys in
      members_then (cs (f ++ ab) ++ cs (g ++ bc)) ((cs f ++ cs ab) ++ (cs g ++ cs bc)) (cs ((f ++ g) ++ ac))
      (members_refl (cs (f ++ ab) ++ cs (g ++ bc)) ((cs f ++ cs ab) ++ (cs g ++ cs bc)) (ap₂ (λ l r. l ++ r) (split f ab) (split g bc)))
      (members_then ((cs f ++ cs ab) ++ (cs g ++ cs bc)) ((cs f ++ cs g) ++ (cs ab ++ cs bc)) (cs ((f ++ g) ++ ac))
      (members_exchange (cs f) (cs ab) (cs g) (cs bc))
      (members_then ((cs f ++ cs g) ++ (cs ab ++ cs bc)) (cs (f ++ g) ++ cs ac) (cs ((f ++ g) ++ ac))
      (members_append (cs f ++ cs g) (cs (f ++ g)) (cs ab ++ cs bc) (cs ac)
      (members_refl (cs f ++ cs g) (cs (f ++ g)) (sym (split f g)))
      (commands_then s a.inputs.items b.inputs.items c.inputs.items first.inputs second.inputs))
      (members_refl (cs (f ++ g) ++ cs ac) (cs ((f ++ g) ++ ac)) (sym (split (f ++ g) ac)))))

  both_ranges : All IsCommand (commands_in (setting_of a) (f ++ all_fresh a.inputs.items b.inputs.items) ++ commands_in (setting_of a) (g ++ all_fresh b.inputs.items c.inputs.items))
  both_ranges =
      all_append IsCommand _ _ first.ranges
      (subst (λ s. All IsCommand (commands_in s (g ++ all_fresh b.inputs.items c.inputs.items))) first.setting second.ranges)

  pub moved_then : HasMoved (f ++ g) (t + u) a c
  moved_then =
      let s = setting_of a in
      let ab = commands_in s (f ++ all_fresh a.inputs.items b.inputs.items) in
      let bc = commands_in s (g ++ all_fresh b.inputs.items c.inputs.items) in
      let ac = commands_in s ((f ++ g) ++ all_fresh a.inputs.items c.inputs.items) in record {
        setting = second.setting ∙ first.setting;
        base = second.base ∙ first.base;
        player = second.player ∙ first.player;
        reached = omega (arith, second.reached, first.reached);
        commands = second.commands
            ∙ ap₂ (λ m z. put_all m (commands_in z (g ++ all_fresh b.inputs.items c.inputs.items))) first.commands first.setting
            ∙ put_all-append (commands_of a) ab bc
            ∙ put_all-same (commands_of a) (ab ++ bc) ac map (λ d has. All-contains IsCommand (ab ++ bc) d both_ranges has) parts;
        ranges = all_members IsCommand (ab ++ bc) ac parts both_ranges;
        inputs = all_later_then a.inputs.items b.inputs.items c.inputs.items first.inputs second.inputs;
        outputs = all_handed_then f g a.outputs.items b.outputs.items c.outputs.items first.outputs second.outputs;
      }

-- a peer that has not moved
pub moved_none : (p : Peer) → HasMoved [] 0 p p
moved_none p =
    let none = all_fresh_same p.inputs.items in record {
      setting = refl;
      base = refl;
      player = refl;
      reached = omega arith;
      commands = ap (λ fs. put_all (commands_of p) (commands_in (setting_of p) fs)) (sym none);
      ranges = subst (λ fs. All IsCommand (commands_in (setting_of p) fs)) (sym none) (λ i d low. absurd (omega (arith, low)));
      inputs = all_later p.inputs.items p.inputs.items (all_later_same p.inputs.items);
      outputs = all_handed_same p.outputs.items;
    }

-- a turn: its own frames, polls, some ticks, and a settle
pub turn_moved : (f : List Frame) (t : ℕ) (a b c d e : Peer) → IsCommandMap (commands_of a) → HasMoved f 0 a b → HasMoved [] 0 b c → HasMoved [] t c d
    → HasMoved [] 0 d e → HasMoved f t a e
turn_moved f t a b c d e map own polled ticked settled =
    let two = moved_then f [] 0 0 a b c map own polled in
    let three = moved_then (f ++ []) [] (0 + 0) t a c d map two ticked in
    let four = moved_then ((f ++ []) ++ []) [] ((0 + 0) + t) 0 a d e map three settled in
    let ticks : ((0 + 0) + t) + 0 ≡ t = omega arith in
    subst (λ n. HasMoved f n a e) ticks
    (subst (λ fs. HasMoved fs (((0 + 0) + t) + 0) a e) (append-nil ((f ++ []) ++ []) ∙ append-nil (f ++ []) ∙ append-nil f) four)
