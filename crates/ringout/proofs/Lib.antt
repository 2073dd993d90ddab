pub mod RingOut
