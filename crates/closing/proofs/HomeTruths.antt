-- What is known of values stays true while a cell of the home acts.
use Rattle.std.proofs.Common.{◌≡◌, ◌≢◌, ℕ, List, [], ◌∷◌, ◌++◌, refl, ap, sym, subst, ◌∙◌, inl, inr, Option, Some, None, Bool, true, false, ◌==◌}
use Rattle.std.proofs.Common.{All, ◌||◌, ◌&&◌, ◌⊎◌}
use Rattle.std.proofs.lemmas.Bool.{cases_eq, ne_eqb}
use Rattle.std.proofs.lemmas.List.Elements.{All-push}
use Rattle.base.specs.declared.ids.CacheId.{CacheId}
use Rattle.base.specs.declared.ids.Place.TheVariants.{Dir, Cache}
use Rattle.network.specs.declared.message.ForwardKind.{ForwardKind}
use Rattle.network.specs.declared.message.ForwardKind.TheVariants.{FwdGetS, FwdGetM}
use Rattle.network.specs.declared.message.Request.{Request}
use Rattle.network.specs.declared.message.Response.{Response}
use Rattle.network.specs.declared.message.Response.TheVariants.{Data, DataExcl}
use Rattle.network.specs.Traffic.{Traffic, all_sent, response_sent}
use Rattle.directory_table.specs.declared.actions.DirectoryAction.{DirectoryAction}
use Rattle.directory_table.specs.declared.actions.DirectoryAction.TheVariants as action
use Rattle.control.specs.declared.home.Home.{Home}
use Rattle.control.specs.HomeEffect.{home_message, home_changed, with_owner, owner_message, invalidations}
use Rattle.machine.specs.Block.{BlockState}
use Rattle.machine.proofs.Invitations.{invs-requests, invs-responses}
use Rattle.closing.proofs.Alpha.{Tags, AreTrue, Brings, BringsHome, Puts, data_count}
use Rattle.closing.proofs.Sending.{tag_at, tag-here, tag-elsewhere, data_tag}
use Rattle.closing.proofs.LineActing.{none-brings}
use Rattle.closing.proofs.HomeSending.{at}
use Rattle.closing.proofs.HomeInviting.{memory_sent, all-invited}
use Rattle.closing.proofs.HomeActing.{home_tags, Matches}

-- THE WIRES
owner-requests : (o : Option CacheId) (kind : ForwardKind) (a : CacheId) (w : Traffic) → (all_sent (owner_message o kind a) w).requests ≡ w.requests
owner-requests None kind a w = refl
owner-requests (Some o) kind a w = refl

owner-responses : (o : Option CacheId) (kind : ForwardKind) (a : CacheId) (w : Traffic) → (all_sent (owner_message o kind a) w).responses ≡ w.responses
owner-responses None kind a w = refl
owner-responses (Some o) kind a w = refl

-- the home sends no requests
pub requests-kept : (a : CacheId) (x : DirectoryAction) (home : Home) (w : Traffic) → (all_sent (home_message (Some a) x home) w).requests ≡ w.requests
requests-kept a action.DataReq home w = refl
requests-kept a action.DataAcks home w = refl
requests-kept a action.DataExcl home w = refl
requests-kept a action.InvSharers home w = ap (λ (v : Traffic). v.requests) (all-invited a home.sharers w) ∙ invs-requests a 0 home.sharers w
requests-kept a action.FwdGetS home w = owner-requests home.owner FwdGetS a w
requests-kept a action.FwdGetM home w = owner-requests home.owner FwdGetM a w
requests-kept a action.PutAck home w = refl
requests-kept a action.AddReq home w = refl
requests-kept a action.AddOwner home w = refl
requests-kept a action.RemoveReq home w = refl
requests-kept a action.ClearSharers home w = refl
requests-kept a action.ClearOwner home w = refl
requests-kept a action.SetOwner home w = refl
requests-kept a action.CopyData home w = refl

-- TAGS
pub and-left : (s t : Bool) → s && t ≡ true → s ≡ true
and-left true t e = refl
and-left false t e = absurd (cc)

pub and-right : (s t : Bool) → s && t ≡ true → t ≡ true
and-right true t e = e
and-right false t e = absurd (cc)

or-known : (t : Bool) (n : ℕ) → t || (n == 0) ≡ true → (t ≡ true) ⊎ (n ≡ 0)
or-known true n e = inl refl
or-known false n e = elim (cases_eq n 0) [ inl none ↦ inr none | inr some ↦ let no : (n == 0) ≡ false = ne_eqb n 0 some in absurd (cc) ]

-- the tag of the receiver is true of what is on its way and of what is sent
receiver-true : (tags : Tags) (b : BlockState) (home : Home) (w : Traffic) (a : CacheId) (x : Response) → AreTrue tags (at b home w) →
    (home.memory ≡ b.latest → Brings a.0 b.latest x) → data_tag tags w a.0 tags.memory ≡ true → All (Brings a.0 b.latest) (w.responses ++ x ∷ [])
receiver-true tags b home w a x h brings e =
    All-push (Brings a.0 b.latest) w.responses x (before (or-known (tags.data_to a.0) _ (and-left _ _ e)))
    (brings (h.memory (and-right (tags.data_to a.0 || (data_count a.0 w.responses == 0)) tags.memory e)))
  where
    before : (tags.data_to a.0 ≡ true) ⊎ (data_count a.0 w.responses ≡ 0) → All (Brings a.0 b.latest) w.responses
    before (inl known) = h.data_to a.0 known
    before (inr none) = none-brings a.0 b.latest w.responses none

-- a response from memory to a cache
sent-true : (tags : Tags) (b : BlockState) (home : Home) (w : Traffic) (a : CacheId) (x : Response) → AreTrue tags (at b home w) →
    (home.memory ≡ b.latest → Brings a.0 b.latest x) → ((c : ℕ) → c ≢ a.0 → Brings c b.latest x) → BringsHome b.latest x →
    AreTrue (memory_sent a w tags) (at b home (response_sent x w))
sent-true tags b home w a x h brings others homeward = record {
  line = h.line;
  data_to = λ c e. elim (cases_eq c a.0) [
    | inl same ↦ subst (λ (n : ℕ). All (Brings n b.latest) (w.responses ++ x ∷ [])) (sym same)
        (receiver-true tags b home w a x h brings
        (sym (tag-here a.0 (data_tag tags w a.0 tags.memory) tags.data_to) ∙ ap (λ (n : ℕ). tag_at a.0 (data_tag tags w a.0 tags.memory) tags.data_to n)
        (sym same) ∙ e))
    | inr differ ↦ All-push (Brings c b.latest) w.responses x
        (h.data_to c (sym (tag-elsewhere a.0 (data_tag tags w a.0 tags.memory) tags.data_to c differ) ∙ e)) (others c differ)
  ];
  putm = h.putm;
  home_data = λ e. All-push (BringsHome b.latest) w.responses x (h.home_data e) homeward;
  memory = h.memory;
}

-- where no response is sent and memory stays
kept-true : (tags : Tags) (b : BlockState) (home new : Home) (w v : Traffic) → AreTrue tags (at b home w) → v.requests ≡ w.requests →
    v.responses ≡ w.responses → new.memory ≡ home.memory → AreTrue tags (at b new v)
kept-true tags b home new w v h requests responses memory = record {
  line = h.line;
  data_to = λ c e. subst (λ (l : List Response). All (Brings c b.latest) l) (sym responses) (h.data_to c e);
  putm = λ c e. subst (λ (l : List Request). All (Puts c b.latest) l) (sym requests) (h.putm c e);
  home_data = λ e. subst (λ (l : List Response). All (BringsHome b.latest) l) (sym responses) (h.home_data e);
  memory = λ e. memory ∙ h.memory e;
}

pub owner-memory : (o : Option CacheId) (home : Home) → (with_owner o home).memory ≡ home.memory
owner-memory None home = refl
owner-memory (Some o) home = refl

copied-true : (tags : Tags) (b : BlockState) (home : Home) (w : Traffic) (a : CacheId) (value : Option Bool) (brought : Option ℕ) →
    Matches value brought b.latest → AreTrue tags (at b home w) →
    AreTrue (home_tags a value action.CopyData w tags) (at b (home_changed (Some a) brought action.CopyData home) w)
copied-true tags b home w a None None m h = h
copied-true tags b home w a None (Some v) m h = absurd m
copied-true tags b home w a (Some fresh) None m h = absurd m
copied-true tags b home w a (Some fresh) (Some v) m h =
    record { line = h.line; data_to = h.data_to; putm = h.putm; home_data = h.home_data; memory = m }

pub acted-true : (tags : Tags) (b : BlockState) (home : Home) (w : Traffic) (a : CacheId) (value : Option Bool) (brought : Option ℕ) (x : DirectoryAction) →
    Matches value brought b.latest → AreTrue tags (at b home w) →
    AreTrue (home_tags a value x w tags) (at b (home_changed (Some a) brought x home) (all_sent (home_message (Some a) x home) w))
acted-true tags b home w a value brought action.DataReq m h =
    sent-true tags b home w a (Data Dir (Cache a) home.memory 0) h (λ e same. e) (λ c ne same. absurd (ne (sym same))) tt
acted-true tags b home w a value brought action.DataAcks m h = sent-true tags b home w a (Data Dir (Cache a) home.memory _) h (λ e same. e)
    (λ c ne same. absurd (ne (sym same))) tt
acted-true tags b home w a value brought action.DataExcl m h =
    sent-true tags b home w a (DataExcl a home.memory) h (λ e same. e) (λ c ne same. absurd (ne (sym same))) tt
acted-true tags b home w a value brought action.InvSharers m h =
    kept-true tags b home home w (all_sent (invalidations a 0 home.sharers) w) h (requests-kept a action.InvSharers home w)
    (ap (λ (v : Traffic). v.responses) (all-invited a home.sharers w) ∙ invs-responses a 0 home.sharers w) refl
acted-true tags b home w a value brought action.FwdGetS m h =
    kept-true tags b home home w (all_sent (owner_message home.owner FwdGetS a) w) h (owner-requests home.owner FwdGetS a w)
    (owner-responses home.owner FwdGetS a w) refl
acted-true tags b home w a value brought action.FwdGetM m h =
    kept-true tags b home home w (all_sent (owner_message home.owner FwdGetM a) w) h (owner-requests home.owner FwdGetM a w)
    (owner-responses home.owner FwdGetM a w) refl
acted-true tags b home w a value brought action.PutAck m h = kept-true tags b home home w _ h refl refl refl
acted-true tags b home w a value brought action.AddReq m h = kept-true tags b home _ w w h refl refl refl
acted-true tags b home w a value brought action.AddOwner m h = kept-true tags b home (with_owner home.owner home) w w h refl refl (owner-memory home.owner home)
acted-true tags b home w a value brought action.RemoveReq m h = kept-true tags b home _ w w h refl refl refl
acted-true tags b home w a value brought action.ClearSharers m h = kept-true tags b home _ w w h refl refl refl
acted-true tags b home w a value brought action.ClearOwner m h = kept-true tags b home _ w w h refl refl refl
acted-true tags b home w a value brought action.SetOwner m h = kept-true tags b home _ w w h refl refl refl
acted-true tags b home w a value brought action.CopyData m h = copied-true tags b home w a value brought m h
