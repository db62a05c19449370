-- A writer stands for a file of one packet more.
use Rattle.std.proofs.Common.{◌≡◌, ◌∷◌, ◌++◌, [], ℕ, List, Option, Some, None, Result, Ok, Err, refl, sym, ap, ◌∙◌}
use Rattle.std.proofs.Common.{subst, append-nil, append_assoc}
use Rattle.cap_bytes.specs.declared.faults.Fault.{Fault}
use Rattle.cap_bytes.specs.declared.faults.Fault.TheVariants.{Refused, Read, Write, Memory}
use Rattle.cap_bytes.specs.declared.faults.Refusal.{Refusal}
use Rattle.cap_bytes.specs.declared.formats.Format.{Format}
use Rattle.cap_bytes.specs.declared.formats.Format.TheVariants.{Pcap, Pcapng}
use Rattle.cap_bytes.specs.declared.numbers.Order.{Order}
use Rattle.cap_blocks.specs.Grammar.{section_bytes}
use Rattle.cap_source.specs.Feed.{Item, packet, refused}
use Rattle.cap_source.specs.declared.packets.Meta.{Meta}
use Rattle.cap_write.proofs.Forming.{behind, first, steps, stop-nothing, stops, text-nothing}
use Rattle.cap_write.specs.Numbering.{shared}
use Rattle.cap_write.specs.inner.Forms.{FormState, form_after, form_behind, form_stop, form_text, headed, numbered}
use Rattle.capt_c.specs.Writing.{GrowsBy, PutsPacket, WriterStands, WriterState, file_of, fresh_form, with_packet}

none-some : {A : Type 0} (x : A) → None ≡ Some x → ⊥
none-some x e = cc

-- what a file has described after some packets and another, and whether that is refused
more : (order : Order) (form : FormState) (items : List Item) (meta : Meta) (frame : List ℕ)
    → form_stop form items ≡ None
    → (form_behind form (items ++ packet meta frame ∷ []) ≡ form_after (form_behind form items) meta)
    × (form_stop form (items ++ packet meta frame ∷ []) ≡ form_stop (form_behind form items) (packet meta frame ∷ []))
unfolding form_behind
more order form [] meta frame whole = (refl, refl)
more order form (refused r ∷ items) meta frame whole =
    absurd (none-some r (sym whole ∙ (first order form r items).stop))
more order form (packet m f ∷ items) meta frame whole =
    by (form_stop form (packet m f ∷ [])) refl (more order (form_after form m) items meta frame)
  where
    by : (stop : Option Refusal) → form_stop form (packet m f ∷ []) ≡ stop
        → (form_stop (form_after form m) items ≡ None
        → (form_behind (form_after form m) (items ++ packet meta frame ∷ [])
        ≡ form_after (form_behind (form_after form m) items) meta)
        × (form_stop (form_after form m) (items ++ packet meta frame ∷ [])
        ≡ form_stop (form_behind (form_after form m) items) (packet meta frame ∷ [])))
        → (form_behind (form_after form m) (items ++ packet meta frame ∷ [])
        ≡ form_after (form_behind (form_after form m) items) meta)
        × (form_stop form (packet m f ∷ (items ++ packet meta frame ∷ []))
        ≡ form_stop (form_behind (form_after form m) items) (packet meta frame ∷ []))
    by (Some r) is go = absurd (none-some r (sym whole ∙ (stops order form m f r is).stop items))
    by None is go =
        let s = steps order form m f is in
        let rest = go (sym (s.stop items) ∙ whole) in
        (rest.0, s.stop (items ++ packet meta frame ∷ []) ∙ rest.1)

front : Format → Order → List ℕ
front Pcap order = []
front Pcapng order = section_bytes order

-- the file of some packets and of another
file-more : (format : Format) (order : Order) (items : List Item) (meta : Meta) (frame : List ℕ)
    → form_stop (fresh_form format) items ≡ None
    → file_of format order (items ++ packet meta frame ∷ []) ≡ file_of format order items
    ++ form_text order (form_behind (fresh_form format) items) (packet meta frame ∷ [])
file-more Pcap order items meta frame whole = (behind order (headed None None) items (packet meta frame ∷ []) whole).0
file-more Pcapng order items meta frame whole =
    let form = numbered (shared []) in
    ap (λ t. section_bytes order ++ t) (behind order form items (packet meta frame ∷ []) whole).0
    ∙ sym (append_assoc (section_bytes order) (form_text order form items)
    (form_text order (form_behind form items) (packet meta frame ∷ [])))

stands-more : (format : Format) (old : WriterState) (taken : List ℕ) (items : List Item) (meta : Meta)
    (frame : List ℕ) → form_stop old.form (packet meta frame ∷ []) ≡ None → WriterStands format old taken items
    → WriterStands format (with_packet old meta frame) taken (items ++ packet meta frame ∷ [])
stands-more format old taken items meta frame none stands =
    let form = form_behind (fresh_form format) items in
    let both = more old.order (fresh_form format) items meta frame stands.whole in
    let text = form_text old.order old.form (packet meta frame ∷ []) in
    record {
      bytes = sym (append_assoc taken old.bytes text)
          ∙ (ap (λ t. t ++ text) stands.bytes
          ∙ (ap (λ f. file_of format old.order items ++ form_text old.order f (packet meta frame ∷ [])) stands.form
          ∙ sym (file-more format old.order items meta frame stands.whole)));
      form = ap (λ f. form_after f meta) stands.form ∙ sym both.0;
      whole = both.1 ∙ (ap (λ f. form_stop f (packet meta frame ∷ [])) (sym stands.form) ∙ none);
    }

pub grows : (old : WriterState) (meta : Meta) (frame : List ℕ) (result : Result (Unit {0}) Fault) (new : WriterState)
    → PutsPacket old meta frame result new → GrowsBy old (packet meta frame) result new
grows old meta frame (Ok u) new puts = λ format taken items stands.
    subst (λ w. WriterStands format w taken (items ++ packet meta frame ∷ [])) (sym puts.1)
    (stands-more format old taken items meta frame puts.0 stands)
grows old meta frame (Err (Refused r)) new puts = puts.1
grows old meta frame (Err (Read file offset)) new puts = absurd puts
grows old meta frame (Err Write) new puts = absurd puts
grows old meta frame (Err Memory) new puts = puts

-- ---- before the first packet

pub fresh-file : (order : Order) (held : List ℕ) → held ≡ section_bytes order → held ≡ file_of Pcapng order []
fresh-file order held is =
    is ∙ (sym (append-nil (section_bytes order))
    ∙ ap (λ t. section_bytes order ++ t) (sym (text-nothing order (numbered (shared [])))))

pub stands-fresh : (format : Format) (writer : WriterState) → writer.bytes ≡ file_of format writer.order []
    → writer.form ≡ fresh_form format → WriterStands format writer [] []
unfolding form_behind
stands-fresh format writer bytes form =
    record { bytes = bytes; form = form; whole = stop-nothing writer.order (fresh_form format) }
