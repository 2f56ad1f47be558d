-- A message that is cut into packets and fed in order, at one time, to a receiver just set up is given back, whole and
-- alone.
-- Assumes nothing.
use mathlib.Core.Path.{◌≡◌, refl, ap, sym, transport, ◌∙◌}
use mathlib.Core.Bool.{Bool, true, false}
use mathlib.Core.List.{List, [], ◌∷◌, ◌++◌}
use Prim.Native.Nat.{ℕ, zero, suc, ◌+◌, ◌*◌, ◌%◌, ◌≤◌, ◌<◌}
use native.Mathlib.Nat.{zero-add, zero-mul, one-mul, le-mul_of_pos_right}
use native.Mathlib.Omega.{arith}
use borrow.Author.Tests.{eqb-false, eq-eqb, ne_eqb, le-leb}
use lib.Dec.{lit<, eqb, leb}
use lib.ListN.{length, take, set, length-append, length-take}
use lib.Seq.{set-set}
use Rattle.octets.specs.Bytes.{laid}
use Rattle.octets.specs.Checks.{Hold}
use Rattle.octets.proofs.Choice.{pick_elim, within_bounds, within_holds}
use Rattle.octets.proofs.Laid.{laid-append}
use Rattle.octets.proofs.Parts.{part_grown}
use Rattle.mctp.specs.Packet.{body_right, version_of, body_of, end_of, sequence_of}
use Rattle.mctp.specs.Eid.{endpoint_eid}
use Rattle.mctp.specs.Key.{key_of}
use Rattle.slots.specs.declared.state.Setup.{Setup}
use Rattle.slots.specs.declared.state.Receiver.{Receiver}
use Rattle.slots.specs.declared.state.SlotState.TheVariants.{Gathering}
use Rattle.slots.specs.Setup.{right_setup, ours_of}
use Rattle.slots.specs.Slots.{free_slot, first_of, slot_of, lowest_free}
use Rattle.slots.specs.State.{right_state}
use Rattle.slots.specs.Tallies.{sum_of, gathering_in, held_in, next_tally}
use Rattle.slots.specs.Changes.{fresh, with_slot, with_offered}
use Rattle.slots.specs.Ages.{expired_to, expired}
use Rattle.slots.proofs.Ages.{age_none}
use Rattle.slots.proofs.States.{right_of}
use Rattle.slots.proofs.Changes.{fresh_right}
use Rattle.decision.specs.Checks.{packet_order, source_order}
use Rattle.decision.specs.Rules.{unit_right}
use Rattle.receiver.specs.Step.{Said, held, done, Left, slot_in, step_of}
use Rattle.receiver.proofs.Laws.{step_right}
use Rattle.receiver.proofs.Young.{then_none_expired}
use Rattle.messages.specs.Run.{rules, messages_of, Ran, of_step, joined, run, at_once, run_packets}
use Rattle.messages.specs.Message.{Starts, Follows, Young, slot_for}
use Rattle.messages.proofs.Gathering.{Gathers, middle_step, middle_gathers, end_step}
use Rattle.messages.proofs.Gathering.{start_held, start_done, start_gathers}
use Rattle.sender.specs.declared.heading.Heading.{Heading}
use Rattle.sender.specs.Cutting.{packets_in, packet_body, packet_at, heading_right, message_right}
use Rattle.sender.specs.Whole.{along, all_packets}
use Rattle.demands.specs.Sending.{reply_to, idle, GivesMessage}
use Rattle.sender.proofs.Cuts.{inside, counted}
use Rattle.sender.proofs.Packets.{some_room, taken_next, body_full, body_sizes, taken_all, right_numbers_lem}
use Rattle.sender.proofs.Packets.{packet_body_lem, packet-length, packet_key, packet_start, packet_end, packet_sequence}
use Rattle.sender.proofs.Packets.{packet_version, packet_destination, packet_source}

-- every packet that is cut is one that the message rules take: its size, version, destination and source are right for
-- a receiver that the destination is for, with the same largest body or a larger one
pub packet_checked : (most most' : ℕ) (s : Setup) (heading : Heading) (message : List ℕ) (k : ℕ)
    → body_right most ≡ true
    → most ≤ most'
    → ours_of s heading.key.destination.0 ≡ true
    → heading_right heading ≡ true
    → k < packets_in most (length message)
    → Hold (packet_order most' s (packet_at most heading message k) ++ source_order (packet_at most heading message k))
packet_checked most most' s heading message k right larger ours good h =
    let p = packet_at most heading message k in
    let sizes = body_sizes most message k (some_room most right) h in
    let long = packet-length most heading message k in
    let version = eq-eqb (version_of p) 1 (packet_version most heading message k good) in
    let destination = ap (ours_of s) (packet_destination most heading message k good) ∙ ours in
    let source = ap endpoint_eid (packet_source most heading message k good) ∙ (right_numbers_lem heading good).0 in
    (within_holds 5 (4 + most') (length p) (omega arith) (omega arith), (version, (destination, (source, tt))))

-- a right state whose slots are all free tells nothing held
idle_of : (most : ℕ) (s : Setup) (r : Receiver) (packets messages : ℕ) → right_state most r ≡ true
    → r.setup ≡ s → r.slots ≡ (fresh s).slots → r.tallies.offered ≡ packets → r.tallies.done ≡ messages
    → r ≡ idle s packets messages
unfolding sum_of
idle_of most s r packets messages right setup slots offered finished =
    let gathering = (right_of most r right).gathering ∙ ap gathering_in slots in
    let held = (right_of most r right).held ∙ ap held_in slots in
    λ j. record {
      setup = setup j;
      slots = slots j;
      tallies = record { gathering = gathering j; held = held j; offered = offered j; done = finished j };
    }

-- a message laid into slot 0 is read from there
read_back : (m b : List ℕ) → length b ≤ length m → messages_of (done 0 (length b) false) (laid m 0 b) ≡ b ∷ []
read_back m b h =
    ap (λ (s : List ℕ). s ∷ [])
    (ap (λ (n : ℕ). take n (laid m 0 b)) (sym (zero-add (length b))) ∙ part_grown m 0 0 b (omega arith))

-- what n packets from packet k on leave, the last of them among them
record Gives (most : ℕ) (s : Setup) (m message : List ℕ) (k n : ℕ) (ran : Ran) : Type 0 where
  answers : ran.answers ≡ along (reply_to most (length message)) k n
  messages : ran.messages ≡ message ∷ []
  receiver : ran.receiver ≡ idle s (packets_in most (length message)) 1
  memory : ran.memory ≡ laid m 0 message

-- a call that leaves this much, on packet k
module _ (most : ℕ) (s : Setup) (m message : List ℕ) (k : ℕ) (l : Left) where
  -- it holds the packet: the rest gives the message
  gives_more : (n : ℕ) (rest : Ran) → k + 1 < packets_in most (length message)
      → l.said ≡ held 0 ((k + 1) * most) false
      → Gives most s m message (suc k) n rest
      → Gives most s m message k (suc n) (joined (of_step l) rest)
  unfolding along
  gives_more n rest h said G =
      let expected : rules (held 0 ((k + 1) * most) false) ≡ reply_to most (length message) k =
      rw (ne_eqb (k + 1) (packets_in most (length message)) (λ e. omega arith)) in
      let reply = ap rules said ∙ expected in
      let later = G.answers in
      record {
        answers = λ j. reply j ∷ later j;
        messages = ap (λ (x : Said). messages_of x l.memory ++ rest.messages) said ∙ G.messages;
        receiver = G.receiver;
        memory = G.memory;
      }

  -- it is done with the last: nothing is left to come
  gives_last : length message ≤ length m → k + 1 ≡ packets_in most (length message)
      → l ≡ record { said = done 0 (length message) false; receiver = idle s (k + 1) 1; memory = laid m 0 message }
      → Gives most s m message k 1
      (joined (of_step l) (record { answers = []; messages = []; receiver = l.receiver; memory = l.memory }))
  unfolding along
  gives_last fits e left =
      let expected : rules (done 0 (length message) false) ≡ reply_to most (length message) k =
      rw (eq-eqb (k + 1) (packets_in most (length message)) e) in
      let reply = ap (λ (x : Left). rules x.said) left ∙ expected in
      record {
        answers = λ j. reply j ∷ [];
        messages =
            ap (λ (x : Left). messages_of x.said x.memory ++ []) left
            ∙ ap (λ (b : List (List ℕ)). b ++ []) (read_back m message fits);
        receiver = ap (λ (x : Left). x.receiver) left ∙ ap (λ (n : ℕ). idle s n 1) e;
        memory = ap (λ (x : Left). x.memory) left;
      }

module _ (most most' time : ℕ) (s : Setup) (m : List ℕ) (heading : Heading) (message : List ℕ)
    (right : body_right most ≡ true)
    (larger : most ≤ most')
    (state : right_state most' (fresh s) ≡ true)
    (ours : ours_of s heading.key.destination.0 ≡ true)
    (good : heading_right heading ≡ true)
    (fits : length message ≤ 1024)
    (size : length m ≡ 4096)
    (bits : time < 4294967296) where
  abbrev count : ℕ
  count = packets_in most (length message)

  abbrev packet : ℕ → List ℕ
  packet k = packet_at most heading message k

  -- the bodies up to packet k
  abbrev up_to : ℕ → List ℕ
  up_to k = take (suc k * most) message

  some : 1 ≤ most
  some = some_room most right

  -- packets 0 to k were given, and none of them is the last: slot 0 gathers, its bytes are their bodies, no slot is
  -- old, they are counted, and nothing else differs from what was there
  record Under (k : ℕ) (r : Receiver) (now : List ℕ) : Type 0 where
    gathers : Gathers most' r now heading.key 0 time ((heading.first + k) % 4) most (up_to k)
    none_old : expired time r ≡ r
    setup : r.setup ≡ s
    freed : set r.slots 0 free_slot ≡ (fresh s).slots
    offered : r.tallies.offered ≡ suc k
    done : r.tallies.done ≡ 0
    memory : now ≡ laid m 0 (up_to k)

  -- the next packet
  module _ (k : ℕ) (r : Receiver) (now : List ℕ) (U : Under k r now) (h : suc k < count) where
    abbrev p : List ℕ
    p = packet (suc k)

    abbrev left : Left
    left = step_of most' time r now p

    grown : up_to k ++ body_of p ≡ up_to (suc k)
    grown =
        ap (λ (b : List ℕ). up_to k ++ b) (packet_body_lem most heading message (suc k))
        ∙ sym (taken_next most message (suc k))

    -- one packet more is counted: a message has no more than 1,024
    one_more_lem : next_tally r.tallies.offered ≡ suc (suc k)
    one_more_lem =
        omega (
          arith,
          U.offered,
          inside most (length message) (suc k) some h,
          le-mul_of_pos_right {m = most} (suc k) some,
        )

    total : length (up_to k) + length (body_of p) ≡ length (up_to (suc k))
    total = sym (length-append (up_to k) (body_of p)) ∙ ap length grown

    laid_on : laid now (1024 * 0 + length (up_to k)) (body_of p) ≡ laid m 0 (up_to (suc k))
    laid_on =
        ap (λ (x : List ℕ). laid x (1024 * 0 + length (up_to k)) (body_of p)) U.memory
        ∙ sym (laid-append m 0 (up_to k) (body_of p))
        ∙ ap (laid m 0) grown

    unit_right_lem : unit_right (end_of p) most (length (body_of p)) ≡ true
    unit_right_lem =
        let n = length (packet_body most message (suc k)) in
        rw (packet_body_lem most heading message (suc k), packet_end most heading message (suc k) good)
        (pick_elim (λ (t : Bool). t ≡ true) (eqb (suc k + 1) count) (leb n most) (eqb n most)
        (λ e. le-leb n most (body_sizes most message (suc k) some h).1)
        (λ e. eq-eqb n most (body_full most message (suc k) some (omega (arith, eqb-false (suc k + 1) count e)))))

    follows : Follows most' r.setup heading.key ((heading.first + k) % 4) most (length (up_to k)) p
    follows =
        record {
          checked =
              packet_checked most most' r.setup heading message (suc k) right larger (rw U.setup ours) good h;
          not_start = packet_start most heading message (suc k) good ∙ ne_eqb (suc k) 0 (λ e. omega arith);
          key = packet_key most heading message (suc k) good;
          sequence = packet_sequence most heading message (suc k) good ∙ omega arith;
          size = unit_right_lem;
          room = omega (arith, total, length-take (suc (suc k) * most) message);
        }

    -- all of them come at one time
    in_time : Young r.setup time time
    in_time = omega (arith, age_none time bits)

    -- a middle
    module _ (more : suc k + 1 < count) where
      goes_on_lem : end_of p ≡ false
      goes_on_lem = packet_end most heading message (suc k) good ∙ ne_eqb (suc k + 1) count (λ e. omega arith)

      middle_left : left
          ≡ record {
            said = held 0 (length (up_to k) + length (body_of p)) false;
            receiver =
                with_slot (with_offered r) 0
                (slot_in (Gathering heading.key (sequence_of p) most (length (up_to k) + length (body_of p))) time);
            memory = laid now (1024 * 0 + length (up_to k)) (body_of p);
          }
      middle_left =
          middle_step most' time r now heading.key 0 _ _ most (up_to k) U.gathers in_time p follows goes_on_lem
          ∙ ap (λ (q : Receiver). record {
            said = held 0 (length (up_to k) + length (body_of p)) false;
            receiver =
                with_slot (with_offered q) 0
                (slot_in (Gathering heading.key (sequence_of p) most (length (up_to k) + length (body_of p))) time);
            memory = laid now (1024 * 0 + length (up_to k)) (body_of p);
          }) U.none_old

      middle_said : left.said ≡ held 0 ((suc k + 1) * most) false
      middle_said =
          let inner = inside most (length message) (suc k + 1) some more in
          ap (λ (l : Left). l.said) middle_left
          ∙ ap (λ (n : ℕ). held 0 n false) (omega (arith, total, length-take (suc (suc k) * most) message))

      middle_under : Under (suc k) left.receiver left.memory
      middle_under =
          let sequence = packet_sequence most heading message (suc k) good in
          record {
            gathers =
                transport
                (λ j. Gathers most' left.receiver left.memory heading.key 0 time (sequence j) most (grown j))
                (middle_gathers most' time r now heading.key 0 _ _ most (up_to k)
                U.gathers in_time p follows goes_on_lem);
            none_old = then_none_expired most' time r now p bits U.gathers.right U.gathers.memory;
            setup = ap (λ (l : Left). l.receiver.setup) middle_left ∙ U.setup;
            freed =
                ap (λ (l : Left). set l.receiver.slots 0 free_slot) middle_left
                ∙ set-set r.slots 0 _ _
                ∙ U.freed;
            offered = ap (λ (l : Left). l.receiver.tallies.offered) middle_left ∙ one_more_lem;
            done = ap (λ (l : Left). l.receiver.tallies.done) middle_left ∙ U.done;
            memory = ap (λ (l : Left). l.memory) middle_left ∙ laid_on;
          }

    -- the last
    last_left : suc k + 1 ≡ count
        → left
        ≡ record { said = done 0 (length message) false; receiver = idle s (suc k + 1) 1; memory = laid m 0 message }
    last_left last =
        let ends = packet_end most heading message (suc k) good ∙ eq-eqb (suc k + 1) count last in
        let all = taken_all most message (suc k) some last in
        let bytes = total ∙ ap length all in
        let step = end_step most' time r now heading.key 0 _ _ most (up_to k) U.gathers in_time p follows ends in
        let said = ap (λ (l : Left). l.said) step ∙ ap (λ (n : ℕ). done 0 n false) bytes in
        let memory = ap (λ (l : Left). l.memory) step ∙ laid_on ∙ ap (laid m 0) all in
        let receiver =
        idle_of most' s left.receiver (suc k + 1) 1 (step_right most' time r now p U.gathers.right)
        (ap (λ (l : Left). l.receiver.setup) step ∙ ap (λ (q : Receiver). q.setup) U.none_old ∙ U.setup)
        (ap (λ (l : Left). l.receiver.slots) step ∙ ap (λ (q : Receiver). set q.slots 0 free_slot) U.none_old
        ∙ U.freed)
        (ap (λ (l : Left). l.receiver.tallies.offered) step
        ∙ ap (λ (q : Receiver). next_tally q.tallies.offered) U.none_old ∙ one_more_lem ∙ omega arith)
        (ap (λ (l : Left). l.receiver.tallies.done) step
        ∙ ap (λ (q : Receiver). next_tally q.tallies.done) U.none_old ∙ ap next_tally U.done) in
        λ j. record { said = said j; receiver = receiver j; memory = memory j }

  -- the packets after packet k, one more than n of them
  rest_gives : (n k : ℕ) (r : Receiver) (now : List ℕ) → Under k r now → suc k + suc n ≡ count
      → Gives most s m message (suc k) (suc n) (run_packets most' r now (at_once time (along packet (suc k) (suc n))))
  unfolding run along
  rest_gives zero k r now U e =
      gives_last most s m message (suc k) (step_of most' time r now (packet (suc k))) (omega arith) (omega arith)
      (last_left k r now U (omega arith) (omega arith))
  rest_gives (suc n) k r now U e =
      let l = step_of most' time r now (packet (suc k)) in
      let h : suc k < count = omega arith in
      let more : suc k + 1 < count = omega arith in
      gives_more most s m message (suc k) l (suc n) _ more (middle_said k r now U h more)
      (rest_gives n (suc k) l.receiver l.memory (middle_under k r now U h more) (omega arith))

  -- the first packet, which goes to slot 0
  module _ (h : 0 < count) where
    abbrev begun : Left
    begun = step_of most' time (fresh s) m (packet 0)

    starts : Starts most' s (packet 0)
    starts =
        record {
          checked = packet_checked most most' s heading message 0 right larger ours good h;
          start = packet_start most heading message 0 good;
        }

    first_body : body_of (packet 0) ≡ up_to 0
    first_body =
        packet_body_lem most heading message 0
        ∙ ap (λ (n : ℕ). take n message ++ packet_body most message 0) (sym (zero-mul most))
        ∙ sym (taken_next most message 0)

    -- where more follow
    module _ (more : 0 + 1 < count) where
      first_size : length (body_of (packet 0)) ≡ most
      first_size = ap length (packet_body_lem most heading message 0) ∙ body_full most message 0 some more

      first_goes_on : end_of (packet 0) ≡ false
      first_goes_on = packet_end most heading message 0 good ∙ ne_eqb (0 + 1) count (λ e. omega arith)

      first_left : begun
          ≡ record {
            said = held 0 (length (body_of (packet 0))) false;
            receiver =
                with_slot (with_offered (fresh s)) 0
                (slot_in
                (Gathering (key_of (packet 0)) (sequence_of (packet 0)) (length (body_of (packet 0)))
                (length (body_of (packet 0))))
                time);
            memory = laid m 0 (body_of (packet 0));
          }
      unfolding slot_for slot_of lowest_free first_of expired_to
      first_left = start_held most' time (fresh s) m (packet 0) state size starts (lit< tt) first_goes_on

      first_said : begun.said ≡ held 0 ((0 + 1) * most) false
      first_said =
          ap (λ (l : Left). l.said) first_left
          ∙ ap (λ (n : ℕ). held 0 n false) (first_size ∙ sym (one-mul most))

      first_under : Under 0 begun.receiver begun.memory
      unfolding slot_for slot_of lowest_free first_of expired_to
      first_under =
          let key = packet_key most heading message 0 good in
          let sequence = packet_sequence most heading message 0 good in
          record {
            gathers =
                transport
                (λ j. Gathers most' begun.receiver begun.memory (key j) 0 time (sequence j) (first_size j)
                (first_body j))
                (start_gathers most' time (fresh s) m (packet 0) state size starts (lit< tt) first_goes_on);
            none_old = then_none_expired most' time (fresh s) m (packet 0) bits state size;
            setup = ap (λ (l : Left). l.receiver.setup) first_left;
            freed = ap (λ (l : Left). set l.receiver.slots 0 free_slot) first_left;
            offered = ap (λ (l : Left). l.receiver.tallies.offered) first_left;
            done = ap (λ (l : Left). l.receiver.tallies.done) first_left;
            memory = ap (λ (l : Left). l.memory) first_left ∙ ap (laid m 0) first_body;
          }

    -- where it is the last too
    alone_left : 0 + 1 ≡ count
        → begun
        ≡ record { said = done 0 (length message) false; receiver = idle s (0 + 1) 1; memory = laid m 0 message }
    unfolding slot_for slot_of lowest_free first_of expired_to
    alone_left last =
        let ends = packet_end most heading message 0 good ∙ eq-eqb (0 + 1) count last in
        let all = first_body ∙ taken_all most message 0 some last in
        let step = start_done most' time (fresh s) m (packet 0) state size starts (lit< tt) ends in
        let said = ap (λ (l : Left). l.said) step ∙ ap (λ (b : List ℕ). done 0 (length b) false) all in
        let memory = ap (λ (l : Left). l.memory) step ∙ ap (laid m 0) all in
        let receiver =
        idle_of most' s begun.receiver (0 + 1) 1 (step_right most' time (fresh s) m (packet 0) state)
        (ap (λ (l : Left). l.receiver.setup) step) (ap (λ (l : Left). l.receiver.slots) step)
        (ap (λ (l : Left). l.receiver.tallies.offered) step) (ap (λ (l : Left). l.receiver.tallies.done) step) in
        λ j. record { said = said j; receiver = receiver j; memory = memory j }

    all_give : (n : ℕ) → n ≡ count
        → Gives most s m message 0 n (run_packets most' (fresh s) m (at_once time (along packet 0 n)))
    unfolding run along
    all_give zero e = absurd (omega arith)
    all_give (suc zero) e = gives_last most s m message 0 begun (omega arith) e (alone_left e)
    all_give (suc (suc n)) e =
        let more : 0 + 1 < count = omega arith in
        gives_more most s m message 0 begun (suc n) _ more (first_said more)
        (rest_gives n 0 begun.receiver begun.memory (first_under more) (omega arith))

-- all packets of a message, fed in order to a receiver just set up that the destination is for: held, held, .., done;
-- the message and nothing else; every slot free again, the packets counted and one message done; and of the memory the
-- front alone changes
pub fed_in_order : (most most' time : ℕ) (s : Setup) (m : List ℕ) (heading : Heading) (message : List ℕ)
    → body_right most ≡ true
    → body_right most' ≡ true
    → most ≤ most'
    → right_setup s ≡ true
    → ours_of s heading.key.destination.0 ≡ true
    → heading_right heading ≡ true
    → message_right (length message) ≡ true
    → length m ≡ 4096
    → time < 4294967296
    → GivesMessage most s m message (run_packets most' (fresh s) m (at_once time (all_packets most heading message)))
fed_in_order most most' time s m heading message right right' larger setup ours good sized size bits =
    let bounds = within_bounds 1 1024 (length message) sized in
    let first = counted most (length message) 0 (some_room most right) (rw (zero-mul most) bounds.0) in
    let G = all_give most most' time s m heading message right larger (fresh_right most' s right' setup) ours good
    bounds.1 size bits first (packets_in most (length message)) refl in
    record { answers = G.answers; messages = G.messages; receiver = G.receiver; memory = G.memory }
